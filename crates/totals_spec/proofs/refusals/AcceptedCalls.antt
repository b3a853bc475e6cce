-- What an accepted call has shown: that none of the refusals' conditions holds.
use mathlib.Core.Path.{◌≡◌, sym}
use mathlib.Core.Bool.{false, not, ◌&&◌, ◌||◌}
use mathlib.Core.List.{List}
use Prim.Native.Nat.{ℕ, ◌≤◌}
use lib.ListN.{length}
use lib.Dec.{leb, ltb, leb→le, eqb}
use borrow.Author.Tests.{ltb-false}
use Rattle.totals_spec.specs.Basics.{any}
use Rattle.totals_spec.specs.formats.Format.{Format, valid_format}
use Rattle.totals_spec.specs.formats.Settings.{Settings, valid_settings}
use Rattle.totals_spec.specs.formats.Bounds.{FormatBounds, SettingsBounds}
use Rattle.totals_spec.specs.sums.Totals.{limit, stray, sum_refusal, dot_refusal}
use Rattle.totals_spec.proofs.formats.Valid.{and_left, and_right, format-bounds, settings-bounds}
use Rattle.totals_spec.proofs.chain.PassesOfRecords.{valid-of}
use Rattle.totals_spec.proofs.order.Order.{first-zero, or_split, dot-lengths}

pub record SumAccepts (f : Format) (c : Settings) (u : ℕ) (l : List ℕ) : Type 0 where
  pub format : FormatBounds f
  pub settings : SettingsBounds f c
  pub summand : u ≤ 2
  pub few : length l ≤ limit
  pub unstray : any (stray f) l ≡ false

pub sum-accepts : (f : Format) (c : Settings) (u : ℕ) (l : List ℕ) → sum_refusal f c u l ≡ 0 → SumAccepts f c u l
unfolding sum_refusal
sum-accepts f c u l e =
    let a = first-zero (not (valid_format f)) 2 _ e in
    let b = first-zero (not (valid_settings f c && leb u 2)) 3 _ a.1 in
    let g = first-zero (ltb limit (length l)) 5 _ b.1 in
    let t = valid-of (valid_settings f c && leb u 2) 3 _ a.1 in
    record {
      format = format-bounds f (valid-of (valid_format f) 2 _ e);
      settings = settings-bounds f c (and_left (valid_settings f c) (leb u 2) t);
      summand = leb→le u 2 (and_right (valid_settings f c) (leb u 2) t);
      few = ltb-false limit (length l) g.0;
      unstray = (first-zero (any (stray f) l) 6 _ g.1).0;
    }

pub record DotAccepts (f : Format) (c : Settings) (xs ys : List ℕ) : Type 0 where
  pub format : FormatBounds f
  pub settings : SettingsBounds f c
  pub same : length ys ≡ length xs
  pub few : length xs ≤ limit
  pub unstray : any (stray f) xs ≡ false

pub dot-accepts : (f : Format) (c : Settings) (xs ys : List ℕ) → dot_refusal f c xs ys ≡ 0 → DotAccepts f c xs ys
unfolding dot_refusal
dot-accepts f c xs ys e =
    let a = first-zero (not (valid_format f)) 2 _ e in
    let b = first-zero (not (valid_settings f c)) 3 _ a.1 in
    let g = first-zero (not (eqb (length xs) (length ys))) 4 _ b.1 in
    let h = first-zero (ltb limit (length xs)) 5 _ g.1 in
    record {
      format = format-bounds f (valid-of (valid_format f) 2 _ e);
      settings = settings-bounds f c (valid-of (valid_settings f c) 3 _ a.1);
      same = sym (unfold dot_refusal in dot-lengths f c xs ys e);
      few = ltb-false limit (length xs) h.0;
      unstray = (or_split (any (stray f) xs) (any (stray f) ys) (first-zero (any (stray f) xs || any (stray f) ys) 6 _ h.1).0).0;
    }

-- Sums of figures: the terms of a list and the values of its figures, in least numbers, have one
-- sum; and the plain sum of finite figures, in a directed mode, is the best bound of that sum.
use mathlib.Core.Bool.{Bool, true, false, cond, not, ◌||◌}
use mathlib.Core.List.{[], List, ◌∷◌, map}
use Prim.Native.Nat.{ℕ, ◌+◌, ◌*◌, ◌^◌, ◌≤◌}
use mathlib.Core.Path.{◌≡◌, sym, ap, ap₂, ◌∙◌, refl, subst}
use native.Mathlib.Nat.{add-mul, zero-mul, zero-add}
use lib.Dec.{T, eqb}
use borrow.Author.Tests.{eqb-true, le-ltb}
use lib.ListN.{length}
use Rattle.totals_spec.specs.Basics.{Signed, plus_of, minus_of, is_set, total, keep, any}
use Rattle.totals_spec.specs.terms.Terms.{Term, single, item, item_of, term_of, plus_sum, minus_sum}
use Rattle.totals_spec.specs.formats.Format.{Format, room, binary64, valid_format, grid}
use Rattle.totals_spec.specs.formats.Settings.{Settings, value, with_rounding, precision_of}
use Rattle.totals_spec.specs.formats.Settings.{valid_settings}
use Rattle.totals_spec.specs.formats.Decode.{Unpacked, zero_of, finite, infinity, nan, decode}
use Rattle.totals_spec.specs.formats.Decode.{operand}
use Rattle.totals_spec.specs.sums.Totals.{sum_terms, stray, limit, sum_refusal, sum_answer}
use Rattle.totals_spec.specs.formats.Ordered.{worth}
use Rattle.totals_spec.specs.formats.Bounds.{RangeBounds}
use Rattle.totals_spec.specs.sums.Promises.{AllFinite}
use Rattle.totals_spec.proofs.rounding.BestBounds.{off-grid, Directs, Best, total-best}
use Rattle.totals_spec.proofs.formats.Valid.{format-bounds, and_left, and_right}
use Rattle.totals_spec.proofs.sums.FiniteLists.{sum-finite}
use Rattle.totals_spec.proofs.formats.NumbersInOrder.{is-ieee}
use Rattle.figures_spec.specs.ranges.Ranges.{good_figure, figure_worth, plus_zero}
use Rattle.figures_spec.specs.ranges.Allowed.{sum_of_amounts}

-- the negative part of a signed number where `minus` says so, else the positive one
abbrev part : (minus s : Bool) → ℕ → ℕ
part false s n = cond s 0 n
part true s n = cond s n 0

abbrev part_of : Bool → Signed → ℕ
part_of b x = part b x.neg x.mag

abbrev term_part : Bool → Term → ℕ
term_part b t = part b t.neg t.mag

module _ (f : Format) (c : Settings) (keeps : is_set c.denormals_are_zero ≡ false) where
  abbrev values : List ℕ → List Signed
  values l = map (λ b. worth (decode f b)) l

  operand-is : (b : ℕ) → operand f c b ≡ decode f b
  unfolding operand
  operand-is b = rw keeps

  -- one more figure: it has no term, or one with a part n or none
  skip : {t : ℕ} (n : ℕ) → t ≡ n * 2 ^ room → t ≡ (0 + n) * 2 ^ room
  skip n e = e ∙ ap (λ (k : ℕ). k * 2 ^ room) (sym (zero-add n))

  more : (b : Bool) (v : Unpacked) (ts : List Term) (n : ℕ) → total (term_part b) ts ≡ n * 2 ^ room
      → total (term_part b) (keep (term_of (item_of value v)) ts) ≡ (part_of b (worth v) + n) * 2 ^ room
  unfolding single
  more true (zero_of s) ts n e = skip n e
  more false (zero_of s) ts n e = skip n e
  more true (infinity s) ts n e = skip n e
  more false (infinity s) ts n e = skip n e
  more true (nan s h m) ts n e = skip n e
  more false (nan s h m) ts n e = skip n e
  more true (finite false k m) ts n e = zero-add (total (term_part true) ts) ∙ skip n e
  more false (finite true k m) ts n e = zero-add (total (term_part false) ts) ∙ skip n e
  more true (finite true k m) ts n e = ap₂ ◌+◌ (off-grid m k room) e ∙ sym (add-mul (m * 2 ^ k) n (2 ^ room))
  more false (finite false k m) ts n e = ap₂ ◌+◌ (off-grid m k room) e ∙ sym (add-mul (m * 2 ^ k) n (2 ^ room))

  sums : (b : Bool) (l : List ℕ) → total (term_part b) (sum_terms f c value l) ≡ total (part_of b) (values l) * 2 ^ room
  unfolding item
  sums b [] = sym (zero-mul (2 ^ room))
  sums b (x ∷ l) =
      ap (λ (v : Unpacked). total (term_part b) (keep (term_of (item_of value v)) (sum_terms f c value l))) (operand-is x)
      ∙ more b (decode f x) (sum_terms f c value l) (total (part_of b) (values l)) (sums b l)

  pub plus-values : (l : List ℕ) → plus_sum (sum_terms f c value l) ≡ total plus_of (values l) * 2 ^ room
  unfolding plus_sum
  plus-values l = sums false l

  pub minus-values : (l : List ℕ) → minus_sum (sum_terms f c value l) ≡ total minus_of (values l) * 2 ^ room
  unfolding minus_sum
  minus-values l = sums true l

-- ---- binary64 and its two directed modes

pub format : RangeBounds binary64
unfolding binary64 valid_format
format = (format-bounds binary64 tt).range

pub downward : Directs binary64 (with_rounding 4) (λ s. s)
unfolding with_rounding precision_of
downward = record { turn = λ s k d. refl; far = λ s. refl; kept-tiny = refl; open-top = refl; full = refl }

pub upward : Directs binary64 (with_rounding 3) not
unfolding with_rounding precision_of
upward = record { turn = λ s k d. refl; far = λ s. refl; kept-tiny = refl; open-top = refl; full = refl }

pub mode-4 : valid_settings binary64 (with_rounding 4) ≡ true
unfolding valid_settings binary64 with_rounding
mode-4 = refl

pub mode-3 : valid_settings binary64 (with_rounding 3) ≡ true
unfolding valid_settings binary64 with_rounding
mode-3 = refl

-- ---- the plain sum of a list of finite figures

abbrev pub AllFigures : List ℕ → Type 0
AllFigures [] = Unit {0}
AllFigures (b ∷ l) = T (good_figure b) × AllFigures l

abbrev pub amounts : List ℕ → List Signed
amounts l = map figure_worth l

-- the sign of a zero makes no difference
unsigned : (s : Bool) (x : ℕ) (up : Bool) (b : ℕ) → Best binary64 s x up (decode binary64 b) → Best binary64 s x up (decode binary64 (plus_zero b))
unsigned s x up b h = go (eqb b (2 ^ 63)) refl
  where
    minus-zero : decode binary64 (2 ^ 63) ≡ zero_of true
    minus-zero = unfold decode binary64 in refl

    plus-zero : decode binary64 0 ≡ zero_of false
    plus-zero = unfold decode binary64 in refl

    go : (z : Bool) → eqb b (2 ^ 63) ≡ z → Best binary64 s x up (decode binary64 (cond z 0 b))
    go false e = h
    go true e =
        subst (Best binary64 s x up) (sym plus-zero) (subst (Best binary64 s x up) (ap (decode binary64) (eqb-true b (2 ^ 63) e) ∙ minus-zero) h)

module _ (m : ℕ) (mode : valid_settings binary64 (with_rounding m) ≡ true) where
  no_stray : (l : List ℕ) → AllFigures l → any (stray binary64) l ≡ false
  no_stray [] h = refl
  no_stray (b ∷ l) h = go (stray binary64 b) (and_left (not (stray binary64 b)) _ h.0) (no_stray l h.1)
    where
      go : (s : Bool) → T (not s) → any (stray binary64) l ≡ false → (s || any (stray binary64) l) ≡ false
      go true t e = absurd t
      go false t e = e

  all-finite : (l : List ℕ) → AllFigures l → AllFinite binary64 l
  all-finite [] h = tt
  all-finite (b ∷ l) h = (and_right (not (stray binary64 b)) _ h.0, all-finite l h.1)

  module _ (l : List ℕ) (figures : AllFigures l) (few : length l ≤ limit) where
    pub accepted : sum_refusal binary64 (with_rounding m) 0 l ≡ 0
    unfolding sum_refusal
    accepted = rw (valid, mode, le-ltb limit (length l) few, no_stray l figures)
      where
        valid : valid_format binary64 ≡ true
        valid = unfold valid_format binary64 in refl

    -- its result is the best bound of the exact sum of the figures' values
    pub rounds : (up : Bool → Bool) → Directs binary64 (with_rounding m) up
        → (let x = sum_of_amounts (amounts l) in
        Best binary64 x.neg x.mag (up x.neg) (decode binary64 (plus_zero (sum_answer binary64 (with_rounding m) 0 l).result)))
    unfolding grid figure_worth
    rounds up d =
        let c = with_rounding m in
        let r = (sum_answer binary64 c 0 l).result in
        unsigned _ _ _ r
        (rw (sum-finite binary64 c 0 l accepted (all-finite l figures))
        (total-best binary64 format is-ieee c up d _ _ (sum_terms binary64 c value l) (total plus_of (amounts l)) (total minus_of (amounts l))
        (plus-values binary64 c keeps l) (minus-values binary64 c keeps l)))
      where
        keeps : is_set (with_rounding m).denormals_are_zero ≡ false
        keeps = unfold with_rounding in refl

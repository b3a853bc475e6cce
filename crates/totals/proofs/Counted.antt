-- Whole pence: of a value that a chain leaves to round, and of a list by what its scan tells.
use mathlib.Core.Path.{◌≡◌, sym, ap, ◌∙◌, subst}
use mathlib.Core.Logic.{◌≢◌}
use mathlib.Core.Bool.{Bool, true, false, ◌||◌}
use mathlib.Core.List.{List}
use Prim.Native.Nat.{ℕ, ◌+◌, ◌-◌, ◌*◌, ◌/◌, ◌^◌, ◌≤◌, ◌<◌}
use native.Mathlib.Omega.{arith}
use lib.IntN.{ℤ, pos}
use lib.ListN.{length}
use lib.Ieee.{size}
use lib.Ieee.Digits.{size-lt, size_reaches}
use borrow.Author.Tests.{eq-eqb, ne_eqb, lt-ltb, le-ltb}
use Rattle.std.specs.Prelude.{is_some}
use Rattle.totals_spec.specs.Basics.{Signed, flag, any}
use Rattle.totals_spec.specs.formats.Format.{Format, valid_format, origin, fall}
use Rattle.totals_spec.specs.formats.Settings.{no_settings, value, ties_to_away}
use Rattle.totals_spec.specs.terms.Terms.{top_of}
use Rattle.totals_spec.specs.chain.Chain.{Run}
use Rattle.totals_spec.specs.rounding.Round.{dropped, rounds_up}
use Rattle.totals_spec.specs.sums.Totals.{limit, stray, first_index, sum_terms}
use Rattle.totals_spec.specs.chain.Settled.{settled}
use Rattle.totals_spec.specs.pence.Pence.{refused_pence, refused_at, in_range, not_number, sum_pence}
use Rattle.totals_spec.specs.pence.Pence as spec
use Rattle.totals_spec.specs.entries.Words.{misnamed, format_by}
use Rattle.totals_spec.specs.pence.Entry.{pence_entry}
use Rattle.totals_spec.specs.pence.Hundredfold.{hundred_terms, whole_figure}
use Rattle.totals_spec.proofs.pence.HundredfoldChain.{pence-by-chain}
use Rattle.totals_spec.proofs.pence.HundredfoldTop.{top-some}
use Rattle.totals_spec.proofs.pence.PenceOfLists.{sum-pence-number, sum-pence-place, none-figure, odd-items}
use Rattle.totals_spec.proofs.numbers.Powers.{size_above}
use Rattle.totals_spec.proofs.pence.NearestWhole.{penny, figure-large, figure-cut, kept_small}
use Rattle.exact.specs.declared.Unrounded.{Unrounded}
use Rattle.exact.specs.declared.Cut.{Cut}
use Rattle.exact.specs.Unrounded.{dropped_of, significand_of, Stands, end_of}
use Rattle.exact.proofs.Standing.{stands-size, some_number, stands-some}
use Rattle.window.specs.declared.ExactSum.{ExactSum}
use Rattle.window.specs.Chain.{outcome_of, LeftOf}
use Rattle.reduction.specs.declared.scan.Scan.{Scan}
use Rattle.reduction.specs.Scan.{Scanned}
use Rattle.reduction.specs.Held.{Sums}
use Rattle.totals.specs.declared.entry.NamedFormat.{NamedFormat}
use Rattle.totals.specs.Entered.{EntersFigure}
use Rattle.totals.specs.PenceRecord.{list_figure, Countable}

-- what is left of a sum of which 64 digits are decided
pub left-countable : (x : Signed) (v : Unrounded) → LeftOf 64 x v → 0 < significand_of v → Countable v
left-countable x v l some =
    let r = l.some some in
    record { some = some; high = r.high; low = r.low; long = λ t. size_above (significand_of v) 64 (r.long t) }

-- a number that a value stands for, with its sign
abbrev standing : Unrounded → ℕ → Signed
standing v x = record { neg = v.negative; mag = x }

-- what a cut at u gives
abbrev pub CutAt : Unrounded → ℕ → Cut → Type 0
CutAt v u r = (x : ℕ) → Stands v x → (r.kept ≡ x / 2 ^ u) × (dropped_of r.dropped ≡ dropped x u)

module _ (f : Format) (v : Unrounded) (h : Countable v) where
  ends : (x : ℕ) → Stands v x → size x ≡ end_of v
  ends x st = stands-size v.sticky (significand_of v) v.position x st h.some

  end_lt : (x : ℕ) → Stands v x → x < 2 ^ end_of v
  end_lt x st = subst (λ (n : ℕ). x < 2 ^ n) (ends x st) (size-lt x)

  pub too_large : origin f false + 63 < end_of v + fall f false → (x : ℕ) → Stands v x → refused_pence 8 ≡ whole_figure f (standing v x)
  too_large g x st =
      let high = size_reaches x (end_of v - 1) (omega (arith, ends x st, h.high)) in
      sym (figure-large f (standing v x) (end_of v - 1) high (omega (arith, g, h.high)))

  module _ (g : end_of v + fall f false ≤ origin f false + 63) where
    pub penny-above : fall f false ≤ origin f false
    penny-above = omega (arith, g, h.high)

    module _ (r : Cut) (u : ℕ) (e : u ≡ penny f) (c : CutAt v u r) where
      pub kept-fits : r.kept < 2 ^ 63
      kept-fits =
          let st = stands-some v.sticky (significand_of v) v.position (omega (arith, h.high)) in
          let x = some_number v.sticky (significand_of v) v.position in
          rw ((c x st).0, e) (kept_small (origin f false) (fall f false) x (end_of v) (end_lt x st) g)

      pub whole_is : (up : Bool) → up ≡ rounds_up ties_to_away v.negative r.kept (dropped_of r.dropped) → (n : ℕ) → n ≡ r.kept + flag 1 up
          → (x : ℕ) → Stands v x → in_range v.negative n ≡ whole_figure f (standing v x)
      whole_is up t n s x st =
          rw (s, t, (c x st).0, (c x st).1, e) (sym (figure-cut f (standing v x) penny-above))

-- ---- a list by its scan

module _ (f : Format) (l : List ℕ) {s : Scan} (g : Scanned f no_settings value l s) where
  met-is : {met : Bool} → met ≡ (is_some s.nan || (s.positive_infinity || s.negative_infinity)) → any (not_number f) l ≡ met
  met-is e = odd-items f no_settings l ∙ sym (e ∙ rw (g.some, g.positive-infinity, g.negative-infinity))

  module _ {met : Bool} (e : met ≡ (is_some s.nan || (s.positive_infinity || s.negative_infinity))) where
    pub met-figure : met ≡ true → refused_pence 8 ≡ list_figure f l
    met-figure t = rw (met-is e, t)

    module _ (t : met ≡ false) where
      pub zero-figure : s.top ≡ 0 → record { figure = pos 0; refusal = 0; place = 0 } ≡ list_figure f l
      zero-figure z = rw (met-is e, t) (sym (none-figure f (sum_terms f no_settings value l) (g.no-term z)))

      pub chain-figure : (b : length l ≤ limit) (x : ExactSum) → Sums 64 (hundred_terms f no_settings l) x
          → whole_figure f (settled (outcome_of x)) ≡ list_figure f l
      chain-figure b x h = rw (met-is e, t) (ap (λ (r : Run). whole_figure f (settled r.outcome)) h.run ∙ pence-by-chain f l b)

  -- T of the hundredfold terms
  pub raised-top : s.top ≢ 0 → (s.top + 7 ≡ top_of (hundred_terms f no_settings l)) × (0 < s.top + 7)
  raised-top h =
      let t : 0 < top_of (sum_terms f no_settings value l) = omega (arith, g.top, h) in
      (ap (λ (n : ℕ). n + 7) g.top ∙ sym (top-some f no_settings l t), omega arith)

-- ---- the record of a list by its refusals

module _ (f : Format) (l : List ℕ) where
  pub no-format : valid_format f ≡ false → refused_pence 3 ≡ sum_pence f l
  unfolding sum_pence
  no-format e = rw e

  module _ (valid : valid_format f ≡ true) where
    pub too_many : limit < length l → refused_pence 6 ≡ sum_pence f l
    unfolding sum_pence
    too_many h = rw (valid, lt-ltb limit (length l) h)

    module _ (few : length l ≤ limit) where
      pub pence-strayed : any (stray f) l ≡ true → refused_at 7 (first_index (stray f) l) ≡ sum_pence f l
      unfolding sum_pence
      pence-strayed e = rw (valid, le-ltb limit (length l) few, e)

      pub pence-unstrayed : any (stray f) l ≡ false → list_figure f l ≡ sum_pence f l
      unfolding sum_pence
      pence-unstrayed e = rw (valid, le-ltb limit (length l) few, e)

-- ---- and its entry

module _ (named : NamedFormat) (l : List ℕ) (old : ℤ) where
  pub misnamed-entry : misnamed named.bias_named named.bias ≡ true → EntersFigure (pence_entry named.kind named.exponent_bits named.width named.bias_named named.bias l old) 3 old
  unfolding pence_entry
  misnamed-entry t = record { code_is = rw t; figure-is = rw t }

  module _ (t : misnamed named.bias_named named.bias ≡ false) (p : spec.Pence) (is : p ≡ sum_pence (format_by named.kind named.exponent_bits named.width named.bias_named named.bias) l) where
    pub refused-entry : p.refusal ≢ 0 → EntersFigure (pence_entry named.kind named.exponent_bits named.width named.bias_named named.bias l old) (p.refusal + 256 * p.place) old
    unfolding pence_entry
    refused-entry h = record { code_is = rw (t, sym is, ne_eqb p.refusal 0 h); figure-is = rw (t, sym is, ne_eqb p.refusal 0 h) }

    pub accepted-entry : p.refusal ≡ 0 → EntersFigure (pence_entry named.kind named.exponent_bits named.width named.bias_named named.bias l old) 0 p.figure
    unfolding pence_entry
    accepted-entry h = record { code_is = rw (t, sym is, eq-eqb p.refusal 0 h); figure-is = rw (t, sym is, eq-eqb p.refusal 0 h) }

    -- number and place fit the one that is returned
    pub code-small : (p.refusal < 256) × (p.place < 4294967296)
    code-small =
        let f = format_by named.kind named.exponent_bits named.width named.bias_named named.bias in (
          subst (λ (x : spec.Pence). x.refusal < 256) (sym is) (sum-pence-number f l),
          subst (λ (x : spec.Pence). x.place < 4294967296) (sym is) (sum-pence-place f l),
        )

-- Two calls of the entries of a total within an allowance, each with a buffer of its own.
use Rattle.std.proofs.Common.{◌≡◌, ◌≢◌, ℕ, ◌+◌, ◌*◌, ◌%◌, ◌≤◌, ◌<◌, List, eqb, refl, sym, ap, ◌∙◌, subst, arith, ℤ}
use Rattle.std.specs.Prelude.{Bool, true, false, not, ◌||◌, cond, ltb, length, take, drop}
use Rattle.std.proofs.Math.Option.{Option, none, some}
use mathlib.Core.Logic.{◌⊎◌, inl, inr}
use native.Mathlib.Nat.{suc-ne-zero}
use lib.ListN.{length-drop}
use borrow.Author.Tests.{eqb-true, ltb-false, le-ltb}
use Rattle.totals_spec.specs.Basics.{any}
use Rattle.totals_spec.specs.formats.Format.{Format}
use Rattle.totals_spec.specs.formats.Settings.{Settings}
use Rattle.totals_spec.specs.sums.Totals.{refused, refuse_if, sum_refusal, dot_refusal, stray}
use Rattle.totals_spec.specs.entries.Bytes.{Entry, values_in, written}
use Rattle.totals_spec.specs.entries.Words.{filled}
use Rattle.totals_spec.specs.entries.Words.{misnamed, format_by}
use Rattle.targets_spec.specs.within.Estimate.{Estimate, full, allowed, sum_within, dot_within, estimate_written, estimate_entered, short144}
use Rattle.targets_spec.specs.within.Estimate.{estimate_tested, sum_within_entry, dot_within_entry}
use Rattle.targets_spec.specs.entries.Lengths.{cut_short}
use Rattle.targets_spec.proofs.within.Answers.{within-order}
use Rattle.targets_spec.proofs.within.Answers.{sum-within-number, dot-within-number}
use Rattle.totals.specs.Entered.{Enters}
use Rattle.promised_calls.specs.Entries.{value_size, Whole}
use Rattle.promised_calls.specs.Lent.{names_bias, bias_told, sum_within_call, dot_within_call, SameFirst, KeepsBehind}
use Rattle.promised_calls.specs.Order.{Rearranged, PairsRearranged, WithoutNan}
use Rattle.promised_calls.proofs.Entered.{two, after, told, both-even, even}

-- ---- the format that an entry is told

abbrev pub as_told : Format → Format
as_told f = format_by f.kind f.E f.W (names_bias f.named) (bias_told f.named)

abbrev pub is_misnamed : Format → Bool
is_misnamed f = misnamed (names_bias f.named) (bias_told f.named)

told-whole : (n : Option ℤ) → cond (eqb (names_bias n) 1) (some (bias_told n)) none ≡ n
told-whole none = refl
told-whole (some b) = refl

-- by the entry's numbers it is the format
pub by-numbers : (f : Format) → as_told f ≡ f
by-numbers f = λ i. record { kind = f.kind; E = f.E; W = f.W; named = told-whole f.named i }

-- bytes that end with a whole value are not cut short
pub whole : (f : Format) (bytes : List ℕ) → Whole f bytes → cut_short f.kind bytes ≡ false
whole f bytes = go (eqb f.kind 4)
  where
    go : (t : Bool) → length bytes % value_size t ≡ 0 → not (eqb (length bytes % cond t 10 8) 0) ≡ false
    go true e = even (length bytes % 10) 0 e
    go false e = even (length bytes % 8) 0 e

-- ---- within an allowance

-- a record that passes the entry's own tests is that of the total
passed : (z bad : Bool) (x : Estimate) → (cond {A = Estimate} z (full (refused 16 0)) (cond bad (full (refused 3 0)) x)).answer.refusal ≡ 0
    → x.answer.refusal ≡ 0
passed true bad x e = absurd (suc-ne-zero 15 e)
passed false true x e = absurd (suc-ne-zero 2 e)
passed false false x e = e

-- and of a total that is accepted
total-zero : (z : Bool) (m n : ℕ) → n ≡ refuse_if z 16 m → n ≡ 0 → m ≡ 0
total-zero true m n e h = absurd (suc-ne-zero 15 (sym e ∙ h))
total-zero false m n e h = sym e ∙ h

estimate-first : (x : Estimate) (old again : List ℕ) → take 144 (estimate_written x old) ≡ take 144 (estimate_written x again)
unfolding estimate_written
estimate-first x old again = refl

module _ (bad : Bool) (k : ℕ) where
  abbrev tested : Estimate → Estimate
  tested x = allowed k (cond bad (full (refused 3 0)) x)

  two-within : (odd odd' : Bool) (x x' : Estimate) (old again : List ℕ) → odd' ≡ false → 144 ≤ length again → (x.answer.refusal ≡ 0 → x ≡ x')
      → let a = estimate_tested odd (short144 old) bad k x old in
      let b = estimate_tested odd' (short144 again) bad k x' again in
      a.code ≡ 0 → (b.code ≡ 0) × (take 144 a.buffer ≡ take 144 b.buffer)
  unfolding estimate_entered
  two-within odd odd' x x' old again o r h e =
      let y = tested x in
      let y' = tested x' in
      two (take 144) odd (short144 old) (eqb y.answer.refusal 0) odd' (short144 again) (eqb y'.answer.refusal 0)
      (y.answer.refusal + 256 * y.answer.place) (y'.answer.refusal + 256 * y'.answer.place) old again (estimate_written y old) (estimate_written y' again)
      (told y.answer) o (le-ltb (length again) 144 r)
      (λ _ _ d.
      let same = h (passed (eqb k 0) bad x (eqb-true y.answer.refusal 0 d)) in (
        ap (λ (z : Estimate). eqb (tested z).answer.refusal 0) (sym same) ∙ d,
        estimate-first y old again ∙ ap (λ (z : Estimate). take 144 (estimate_written (tested z) again)) same,
      )) e

  kept-within : (odd : Bool) (x : Estimate) (old : List ℕ) → KeepsBehind 144 old (estimate_tested odd (short144 old) bad k x old).buffer
  unfolding estimate_entered estimate_written
  kept-within odd x old =
      let y = tested x in
      after (KeepsBehind 144 old) odd (short144 old) (eqb y.answer.refusal 0) (y.answer.refusal + 256 * y.answer.place) old (estimate_written y old)
      (refl, refl) (λ s. (refl, omega (arith, length-drop 144 old, ltb-false (length old) 144 s)))

module _ (f : Format) (c : Settings) (u k : ℕ) (bytes old : List ℕ) (number : ℕ) (new : List ℕ)
    (is : Enters (sum_within_call f c u k bytes old) number new) where
  pub sum-alike : (other again : List ℕ) (number' : ℕ) (new' : List ℕ) → Enters (sum_within_call f c u k other again) number' new'
      → Rearranged (values_in bytes) (values_in other) → WithoutNan f (values_in bytes) → Whole f other → 144 ≤ length again
      → number ≡ 0 → (number' ≡ 0) × SameFirst 144 new new'
  unfolding sum_within_entry
  sum-alike other again number' new' is' h n w r e =
      let l = values_in bytes in
      let l' = values_in other in
      let s = two-within (is_misnamed f) k (cut_short f.kind bytes) (cut_short f.kind other) (sum_within (as_told f) c u l k) (sum_within (as_told f) c u l' k) old again
      (whole f other w) r
      (λ z. within-order.0 (as_told f) c u l l' k h (total-zero (eqb k 0) (sum_refusal (as_told f) c u l) _ (sum-within-number (as_told f) c u l k) z)
      (subst (λ (g : Format). WithoutNan g l) (sym (by-numbers f)) n))
      (sym is.code_is ∙ e) in
      (is'.code_is ∙ s.0, ap (take 144) is.buffer-is ∙ (s.1 ∙ ap (take 144) (sym is'.buffer-is)))

  pub sum-keeps : KeepsBehind 144 old new
  unfolding sum_within_entry
  sum-keeps =
      subst (KeepsBehind 144 old) (sym is.buffer-is)
      (kept-within (is_misnamed f) k (cut_short f.kind bytes) (sum_within (as_told f) c u (values_in bytes) k) old)

module _ (f : Format) (c : Settings) (k : ℕ) (left right old : List ℕ) (number : ℕ) (new : List ℕ)
    (is : Enters (dot_within_call f c k left right old) number new) where
  pub dot-alike : (left' right' again : List ℕ) (number' : ℕ) (new' : List ℕ) → Enters (dot_within_call f c k left' right' again) number' new'
      → PairsRearranged (values_in left) (values_in right) (values_in left') (values_in right')
      → WithoutNan f (values_in left) → WithoutNan f (values_in right) → Whole f left' → Whole f right' → 144 ≤ length again
      → number ≡ 0 → (number' ≡ 0) × SameFirst 144 new new'
  unfolding dot_within_entry
  dot-alike left' right' again number' new' is' h n m w v r e =
      let xs = values_in left in
      let ys = values_in right in
      let xs' = values_in left' in
      let ys' = values_in right' in
      let as-told = λ (l : List ℕ) (i : WithoutNan f l). subst (λ (g : Format). WithoutNan g l) (sym (by-numbers f)) i in
      let s = two-within (is_misnamed f) k (cut_short f.kind left || cut_short f.kind right) (cut_short f.kind left' || cut_short f.kind right')
      (dot_within (as_told f) c xs ys k) (dot_within (as_told f) c xs' ys' k) old again
      (both-even (cut_short f.kind left') (cut_short f.kind right') (whole f left' w) (whole f right' v)) r
      (λ z. within-order.1 (as_told f) c xs ys xs' ys' k h.0 h.1 (total-zero (eqb k 0) (dot_refusal (as_told f) c xs ys) _ (dot-within-number (as_told f) c xs ys k) z)
      (as-told xs n) (as-told ys m))
      (sym is.code_is ∙ e) in
      (is'.code_is ∙ s.0, ap (take 144) is.buffer-is ∙ (s.1 ∙ ap (take 144) (sym is'.buffer-is)))

  pub dot-keeps : KeepsBehind 144 old new
  unfolding dot_within_entry
  dot-keeps =
      subst (KeepsBehind 144 old) (sym is.buffer-is)
      (kept-within (is_misnamed f) k (cut_short f.kind left || cut_short f.kind right) (dot_within (as_told f) c (values_in left) (values_in right) k) old)

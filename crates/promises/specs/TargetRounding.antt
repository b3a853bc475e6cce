-- Targets, and answers within an allowance, in the words of the rounding. The list's least non-zero
-- number is 2^(lift f − depth f), the target's 2^(lift t − depth t). So in units of 2^−(depth f +
-- depth t) the list's stands at lift f + depth t, and the target's at lift t + depth f.
use Rattle.std.specs.Prelude.{◌≡◌, true, false, ◌||◌, List, map, length, ℕ, ◌+◌, ◌<◌}
use Rattle.totals_spec.specs.Basics.{Signed, raised, any}
use Rattle.totals_spec.specs.formats.Format.{Format, grid, depth, lift}
use Rattle.totals_spec.specs.formats.Settings.{Settings, value, summand_of}
use Rattle.totals_spec.specs.formats.Decode.{is_subnormal, operand}
use Rattle.totals_spec.specs.terms.Terms.{exact_sum}
use Rattle.figures_spec.specs.ranges.Allowed.{sum_of_amounts}
use Rattle.totals_spec.specs.sums.Totals.{on_grid, is_square, sum_refusal, sum_terms, sum_answer}
use Rattle.totals_spec.specs.sums.Totals.{dot_refusal, dot_terms, dot_answer}
use Rattle.totals_spec.specs.sums.Promises.{AllFinite}
use Rattle.totals_spec.specs.rounding.IntoFormat.{reading_with}
use Rattle.targets_spec.specs.several.Several.{target_refusal, target_answer}
use Rattle.targets_spec.specs.within.Estimate.{full, sum_within, dot_within}
use Rattle.promises.specs.Statements.{RoundedOnce}
use Rattle.promises.specs.Amounts.{amount}
use Rattle.promises.specs.Special.{AllOf, is_any_zero, is_zero_value, some_subnormal, ZeroRecord}
use Rattle.promises.specs.Special.{Cancelled}

-- ---- targets

-- the exact sum of the list, in its own least number; d says whether its subnormals are taken as
-- zeros
abbrev pub list_amount : Format → ℕ → List ℕ → Signed
list_amount f d l = sum_of_amounts (map (amount f (reading_with d) value) l)

-- and in units of 2^−(depth f + depth t)
abbrev pub amount_in : Format → Format → ℕ → List ℕ → Signed
amount_in f t d l = raised (lift f + depth t) (list_amount f d l)

-- an accepted target of a list with a non-zero exact sum is that sum, rounded once into its own
-- format under its own settings: value, encoding and every flag
abbrev pub Target-rounded-once : Type 0
Target-rounded-once = (f : Format) (d : ℕ) (l : List ℕ) (t : Format) (c : Settings)
    → target_refusal f d l t c ≡ 0 → 0 < (amount_in f t d l).mag
    → RoundedOnce t c (lift t + depth f) (any (is_subnormal f) l) (amount_in f t d l)
    (target_answer f d l t c)

-- terms that cancel give +0 there, and −0 where the target's mode is 4, toward negative
abbrev pub Target-cancelled : Type 0
Target-cancelled = (f : Format) (d : ℕ) (l : List ℕ) (t : Format) (c : Settings)
    → target_refusal f d l t c ≡ 0 → 0 < length (sum_terms f (reading_with d) value l)
    → (list_amount f d l).mag ≡ 0
    → Cancelled t c (some_subnormal f l) (target_answer f d l t c)

-- and zeros add up as they do in a plain sum, by the target's mode
abbrev pub Target-of-zeros : Type 0
Target-of-zeros = (f : Format) (d : ℕ) (l : List ℕ) (t : Format) (c : Settings)
    → target_refusal f d l t c ≡ 0 → AllOf
    (λ b. is_any_zero (operand f (reading_with d) b) ≡ true) l
    → ZeroRecord t c (any (λ b. is_zero_value false (operand f (reading_with d) b)) l)
    (any (λ b. is_zero_value true (operand f (reading_with d) b)) l) (some_subnormal f l)
    (target_answer f d l t c)

-- ---- within an allowance of k passes: a full answer, which has the mark 0, is the total's

abbrev pub Sum-within-full : Type 0
Sum-within-full = (f : Format) (c : Settings) (u : ℕ) (l : List ℕ) (k : ℕ) → 0 < k
    → (sum_within f c u l k).mark ≡ 0 → sum_within f c u l k ≡ full (sum_answer f c u l)

abbrev pub Dot-within-full : Type 0
Dot-within-full = (f : Format) (c : Settings) (xs ys : List ℕ) (k : ℕ) → 0 < k
    → (dot_within f c xs ys k).mark ≡ 0 → dot_within f c xs ys k ≡ full (dot_answer f c xs ys)

-- so of finite values with a non-zero exact sum it is that sum, rounded once
abbrev pub Sum-within-once : Type 0
Sum-within-once = (f : Format) (c : Settings) (u : ℕ) (l : List ℕ) (k : ℕ) → 0 < k
    → sum_refusal f c u l ≡ 0 → AllFinite f l → (sum_within f c u l k).mark ≡ 0
    → let square = is_square (summand_of u) in
    let x = on_grid f square (exact_sum (sum_terms f c (summand_of u) l)) in
    0 < x.mag
    → RoundedOnce f c (grid f square) (any (is_subnormal f) l) x (sum_within f c u l k).answer

abbrev pub Dot-within-once : Type 0
Dot-within-once = (f : Format) (c : Settings) (xs ys : List ℕ) (k : ℕ) → 0 < k
    → dot_refusal f c xs ys ≡ 0 → AllFinite f xs → AllFinite f ys
    → (dot_within f c xs ys k).mark ≡ 0
    → let x = on_grid f true (exact_sum (dot_terms f c xs ys)) in
    0 < x.mag
    → RoundedOnce f c (grid f true) (any (is_subnormal f) xs || any (is_subnormal f) ys) x
    (dot_within f c xs ys k).answer

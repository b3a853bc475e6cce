-- A call whose record is that of the definition is the exact sum of its amounts, rounded once.
use Rattle.std.proofs.Common.{◌≡◌, ℕ, ◌<◌, List, sym, ap, ◌∙◌, subst}
use Rattle.std.specs.Prelude.{Bool, true, ◌||◌, map, length}
use Rattle.totals_spec.specs.Basics.{Signed}
use Rattle.totals_spec.specs.formats.Decode.{decode}
use Rattle.totals_spec.specs.formats.Format.{Format, grid}
use Rattle.totals_spec.specs.formats.Settings.{Settings, Summand, value, magnitude, square, summand_of}
use Rattle.totals_spec.specs.rounding.Side.{side_of}
use Rattle.totals_spec.specs.terms.Terms.{item, pair_item, exact_sum}
use Rattle.totals_spec.specs.sums.Totals as spec
use Rattle.totals_spec.specs.sums.Totals.{on_grid, is_square, pairs, sum_terms, sum_answer, dot_terms, dot_answer}
use Rattle.totals_spec.specs.sums.Promises.{AllFinite, zero_answer, zero_for}
use Rattle.totals_spec.proofs.sums.ZeroTotals.{sum-zeros, dot-zeros}
use Rattle.totals_spec.proofs.sums.Sides.{sum-side, dot-side}
use Rattle.promises.specs.Special.{Cancelled, some_subnormal}
use Rattle.promises.specs.Statements.{RoundedOnce}
use Rattle.promises.proofs.roundings.SumsOfAmounts.{exact-sum-means}
use Rattle.promises.proofs.records.OnlyZeros.{sum-cancelled, dot-cancelled}
use Rattle.promises.proofs.roundings.SumsRoundedOnce.{sum-rounded-once, dot-rounded-once}
use Rattle.promised_calls.specs.Rounded.{exact_by, exact, exact_dot, grid_for}
use Rattle.promised_calls.proofs.Calls.{sum-has, sum_number, dot-has, dot-number}

exact-is : (s : Summand) (f : Format) (c : Settings) (l : List ℕ) → exact_by s f c l ≡ on_grid f (is_square s) (exact_sum (sum_terms f c s l))
exact-is value f c l = sym (exact-sum-means.0 f c l)
exact-is magnitude f c l = sym (exact-sum-means.1 f c l)
exact-is square f c l = ap (on_grid f true) (sym (exact-sum-means.2 f c l))

exact-dot-is : (f : Format) (c : Settings) (xs ys : List ℕ) → exact_dot f c xs ys ≡ on_grid f true (exact_sum (dot_terms f c xs ys))
exact-dot-is f c xs ys = ap (on_grid f true) (sym (exact-sum-means.3 f c xs ys))

pub sum-rounded : (f : Format) (c : Settings) (u : ℕ) (l : List ℕ) → spec.sum_refusal f c u l ≡ 0 → AllFinite f l → 0 < (exact f c u l).mag
    → RoundedOnce f c (grid_for f u) (some_subnormal f l) (exact f c u l) (sum_answer f c u l)
sum-rounded f c u l r h =
    subst (λ (y : Signed). 0 < y.mag → RoundedOnce f c (grid_for f u) (some_subnormal f l) y (sum_answer f c u l))
    (sym (exact-is (summand_of u) f c l)) (sum-rounded-once f c u l r h)

pub dot-rounded : (f : Format) (c : Settings) (xs ys : List ℕ) → spec.dot_refusal f c xs ys ≡ 0 → AllFinite f xs → AllFinite f ys
    → 0 < (exact_dot f c xs ys).mag
    → RoundedOnce f c (grid f true) (some_subnormal f xs || some_subnormal f ys) (exact_dot f c xs ys) (dot_answer f c xs ys)
dot-rounded f c xs ys r h k =
    subst (λ (y : Signed). 0 < y.mag → RoundedOnce f c (grid f true) (some_subnormal f xs || some_subnormal f ys) y (dot_answer f c xs ys))
    (sym (exact-dot-is f c xs ys)) (dot-rounded-once f c xs ys r h k)

module _ (f : Format) (c : Settings) (u : ℕ) (l : List ℕ) (a : spec.Answer) (is : a ≡ sum_answer f c u l) (r : a.refusal ≡ 0)
    (h : AllFinite f l) where
  abbrev total : Signed
  total = on_grid f (is_square (summand_of u)) (exact_sum (sum_terms f c (summand_of u) l))

  same-sum : exact f c u l ≡ total
  same-sum = exact-is (summand_of u) f c l

  sum-accepted : spec.sum_refusal f c u l ≡ 0
  sum-accepted = sym (sum_number f c u l a is) ∙ r

  pub sum-once : 0 < (exact f c u l).mag → RoundedOnce f c (grid_for f u) (some_subnormal f l) (exact f c u l) a
  sum-once n =
      sum-has f c u l a is (RoundedOnce f c (grid_for f u) (some_subnormal f l) (exact f c u l)) (sum-rounded f c u l sum-accepted h n)

  pub sum-cancels : 0 < length (sum_terms f c (summand_of u) l) → (exact f c u l).mag ≡ 0 → Cancelled f c (some_subnormal f l) a
  sum-cancels n e =
      sum-has f c u l a is (Cancelled f c (some_subnormal f l))
      (sum-cancelled f c u l sum-accepted h n (ap (λ (y : Signed). y.mag) (sym same-sum) ∙ e))

  pub sum-of-zeros : length (sum_terms f c (summand_of u) l) ≡ 0
      → a ≡ zero_answer f (some_subnormal f l) (zero_for c (map (item f c (summand_of u)) l))
  sum-of-zeros n = is ∙ sum-zeros f c u l sum-accepted h n

  pub sum-sided : a.side ≡ side_of (grid_for f u) (decode f a.result) (exact f c u l)
  sum-sided =
      subst (λ (y : Signed). a.side ≡ side_of (grid_for f u) (decode f a.result) y) (sym same-sum)
      (sum-has f c u l a is (λ b. b.side ≡ side_of (grid_for f u) (decode f b.result) total) (sum-side f c u l sum-accepted h))

module _ (f : Format) (c : Settings) (xs ys : List ℕ) (a : spec.Answer) (is : a ≡ dot_answer f c xs ys) (r : a.refusal ≡ 0)
    (h : AllFinite f xs) (k : AllFinite f ys) where
  abbrev products : Signed
  products = on_grid f true (exact_sum (dot_terms f c xs ys))

  same-dot : exact_dot f c xs ys ≡ products
  same-dot = exact-dot-is f c xs ys

  dot-accepted : spec.dot_refusal f c xs ys ≡ 0
  dot-accepted = sym (dot-number f c xs ys a is) ∙ r

  abbrev sub : Bool
  sub = some_subnormal f xs || some_subnormal f ys

  pub dot-once : 0 < (exact_dot f c xs ys).mag
      → RoundedOnce f c (grid f true) (some_subnormal f xs || some_subnormal f ys) (exact_dot f c xs ys) a
  dot-once n = dot-has f c xs ys a is (RoundedOnce f c (grid f true) sub (exact_dot f c xs ys)) (dot-rounded f c xs ys dot-accepted h k n)

  pub dot-cancels : 0 < length (dot_terms f c xs ys) → (exact_dot f c xs ys).mag ≡ 0
      → Cancelled f c (some_subnormal f xs || some_subnormal f ys) a
  dot-cancels n e =
      dot-has f c xs ys a is (Cancelled f c sub) (dot-cancelled f c xs ys dot-accepted h k n (ap (λ (y : Signed). y.mag) (sym same-dot) ∙ e))

  pub dot-of-zeros : length (dot_terms f c xs ys) ≡ 0
      → a ≡ zero_answer f (some_subnormal f xs || some_subnormal f ys) (zero_for c (map (pair_item f c) (pairs xs ys)))
  dot-of-zeros n = is ∙ dot-zeros f c xs ys dot-accepted h k n

  pub dot-sided : a.side ≡ side_of (grid f true) (decode f a.result) (exact_dot f c xs ys)
  dot-sided =
      subst (λ (y : Signed). a.side ≡ side_of (grid f true) (decode f a.result) y) (sym same-dot)
      (dot-has f c xs ys a is (λ b. b.side ≡ side_of (grid f true) (decode f b.result) products) (dot-side f c xs ys dot-accepted h k))

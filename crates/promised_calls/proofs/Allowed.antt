-- A total within an allowance whose record is that of the definition.
use Rattle.std.proofs.Common.{◌≡◌, ℕ, List, sym, ◌∙◌, subst}
use Rattle.totals_spec.specs.formats.Format.{Format}
use Rattle.totals_spec.specs.formats.Settings.{Settings}
use Rattle.totals_spec.specs.refusals.Conditions.{sum_conditions, dot_conditions}
use Rattle.totals_spec.specs.refusals.Places.{StrayAt, DotStrayAt}
use Rattle.totals_spec.specs.sums.Totals.{sum_refusal, dot_refusal}
use Rattle.targets_spec.specs.within.Conditions.{within_conditions}
use Rattle.targets_spec.specs.within.Estimate.{Estimate, sum_within, dot_within}
use Rattle.targets_spec.proofs.within.Answers.{within-refusal, within-refused, within-place, within-order}
use Rattle.promised_calls.specs.Order.{Rearranged, PairsRearranged, WithoutNan}
use Rattle.promised_calls.specs.Refusals.{RefusesExactly, RefusalAlone, PlacedAt}

module _ (f : Format) (c : Settings) (u : ℕ) (l : List ℕ) (k : ℕ) (a : Estimate) (is : a ≡ sum_within f c u l k) where
  sum-has : (P : Estimate → Type 0) → P (sum_within f c u l k) → P a
  sum-has P p = subst P (sym is) p

  pub sum-exactly : RefusesExactly (within_conditions k (sum_conditions f c u l)) a.answer.refusal
  sum-exactly = sum-has (λ x. RefusesExactly (within_conditions k (sum_conditions f c u l)) x.answer.refusal) (within-refusal.0 f c u l k)

  pub sum-nothing-else : RefusalAlone a
  sum-nothing-else = sum-has RefusalAlone (within-refused.0 f c u l k)

  pub sum-placed : PlacedAt (StrayAt f l) a.answer.refusal a.answer.place
  sum-placed = sum-has (λ x. PlacedAt (StrayAt f l) x.answer.refusal x.answer.place) (within-place.0 f c u l k)

  pub sum-alike : (m : List ℕ) (b : Estimate) → b ≡ sum_within f c u m k → Rearranged l m → sum_refusal f c u l ≡ 0 → WithoutNan f l → a ≡ b
  sum-alike m b is' h r n = is ∙ (within-order.0 f c u l m k h r n ∙ sym is')

module _ (f : Format) (c : Settings) (xs ys : List ℕ) (k : ℕ) (a : Estimate) (is : a ≡ dot_within f c xs ys k) where
  dot-has : (P : Estimate → Type 0) → P (dot_within f c xs ys k) → P a
  dot-has P p = subst P (sym is) p

  pub dot-exactly : RefusesExactly (within_conditions k (dot_conditions f c xs ys)) a.answer.refusal
  dot-exactly = dot-has (λ x. RefusesExactly (within_conditions k (dot_conditions f c xs ys)) x.answer.refusal) (within-refusal.1 f c xs ys k)

  pub dot-nothing-else : RefusalAlone a
  dot-nothing-else = dot-has RefusalAlone (within-refused.1 f c xs ys k)

  pub dot-placed : PlacedAt (DotStrayAt f xs ys) a.answer.refusal a.answer.place
  dot-placed = dot-has (λ x. PlacedAt (DotStrayAt f xs ys) x.answer.refusal x.answer.place) (within-place.1 f c xs ys k)

  pub dot-alike : (xs' ys' : List ℕ) (b : Estimate) → b ≡ dot_within f c xs' ys' k → PairsRearranged xs ys xs' ys' → dot_refusal f c xs ys ≡ 0
      → WithoutNan f xs → WithoutNan f ys → a ≡ b
  dot-alike xs' ys' b is' h r n m = is ∙ (within-order.1 f c xs ys xs' ys' k h.0 h.1 r n m ∙ sym is')

-- The totals of ranges whose record is that of the definition.
use Rattle.std.proofs.Common.{◌≡◌, ◌≢◌, ℕ, List, eqb, refl, sym, ap, ◌∙◌, subst}
use Rattle.std.specs.Prelude.{false}
use borrow.Author.Tests.{ne_eqb}
use Rattle.figures_spec.specs.ranges.Conditions.{range_conditions}
use Rattle.figures_spec.specs.ranges.Ranges as spec
use Rattle.figures_spec.specs.ranges.Ranges.{range_answer, range_refusal, refused_range}
use Rattle.figures_spec.proofs.ranges.Refused.{range-refused-exactly, range-refused}
use Rattle.figures_spec.proofs.ranges.Order.{range-order}
use Rattle.figures_spec.proofs.ranges.Refused.{range-number}
use Rattle.std.specs.Prelude.{Result}
use Rattle.totals.specs.declared.refusal.Refusal.{Refusal}
use Rattle.figures.specs.declared.range.Bounds.{Bounds}
use Rattle.figures.specs.Ranges.{Totalled, range_in}
use Rattle.promised_calls.specs.Order.{TriplesRearranged}
use Rattle.promised_calls.specs.Refusals.{RefusesExactly, WritesNothing}

module _ (ts xs ys : List ℕ) (z : ℕ) (a : Result Bounds Refusal) (xs' ys' : List ℕ) (is : Totalled ts xs ys z a xs' ys') where
  number : (range_in a).refusal ≡ range_refusal ts xs ys z
  number = ap (λ (x : spec.Range). x.refusal) is.record_is ∙ range-number ts xs ys z

  pub exactly : RefusesExactly (range_conditions ts xs ys z) (range_in a).refusal
  exactly =
      subst (λ (x : spec.Range). RefusesExactly (range_conditions ts xs ys z) x.refusal) (sym is.record_is) (range-refused-exactly ts xs ys z)

  pub nothing-else : (range_in a).refusal ≢ 0 → range_in a ≡ refused_range (range_in a).refusal
  nothing-else h = is.record_is ∙ (range-refused ts xs ys z (λ e. h (number ∙ e)) ∙ ap refused_range (sym number))

  refused-test : (range_in a).refusal ≢ 0 → eqb (range_refusal ts xs ys z) 0 ≡ false
  refused-test h = ne_eqb (range_refusal ts xs ys z) 0 (λ e. h (number ∙ e))

  pub firsts-kept : WritesNothing (range_in a).refusal xs xs'
  firsts-kept h = is.firsts-are ∙ rw (refused-test h) refl

  pub seconds-kept : WritesNothing (range_in a).refusal ys ys'
  seconds-kept h = is.seconds-are ∙ rw (refused-test h) refl

  pub alike : (us vs ws : List ℕ) (b : Result Bounds Refusal) (vs' ws' : List ℕ) → Totalled us vs ws z b vs' ws' → TriplesRearranged ts xs ys us vs ws
      → (range_in a).refusal ≡ 0 → range_in a ≡ range_in b
  alike us vs ws b vs' ws' is' h r =
      is.record_is ∙ ((range-order ts xs ys us vs ws z h.0 h.1 h.2 (sym number ∙ r)).1 ∙ sym is'.record_is)

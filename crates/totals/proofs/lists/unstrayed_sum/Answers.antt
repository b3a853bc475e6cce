-- The total of the terms, where no test refuses it.
use Rattle.std.proofs.Common.{◌∙◌}
use Rattle.format.proofs.Layouts.{layout_bounds}
use Rattle.totals_spec.proofs.refusals.AcceptedCalls.{sum-accepts}
use Rattle.totals_spec.specs.sums.Totals.{sum_answer}
use Rattle.reduction.proofs.Items.{sum-summable}
use Rattle.reduction.proofs.Widths.{narrow, narrow-known}
use Rattle.totals.proofs.Refusals.{summand-is}
use Rattle.totals.proofs.Totalled.{sum-is}
use Rattle.totals.proofs.lists.unstrayed_sum.Goals as goal

pub sum_of-total-requires-clause-known : goal.sum_of-total-requires-clause-known
sum_of-total-requires-clause-known g c = (narrow-known _ (layout_bounds c.args.layout), (sum-accepts _ _ _ _ c.requires).settings)

pub sum_of-total-requires-clause-summable : goal.sum_of-total-requires-clause-summable
sum_of-total-requires-clause-summable g c = sum-summable c.args.layout _ _ _ (sum-accepts _ _ _ _ c.requires).few

pub returns : goal.returns
unfolding sum_answer
returns g c =
    rw (narrow _ (layout_bounds c.args.layout)) at c.sum_of-total.ensures
    ∙ sum-is c.args.layout _ _ _
    ∙ rw (summand-is c.args.summand, c.requires)

pub near-requires : goal.near-requires
near-requires g c = let a = sum-accepts _ _ _ _ c.requires in (a.settings, a.few)

pub returns-in-Some : goal.returns-in-Some
unfolding sum_answer
returns-in-Some g c = c.in-Some.ensures {u = tt} ∙ rw (summand-is c.args.summand, c.requires)

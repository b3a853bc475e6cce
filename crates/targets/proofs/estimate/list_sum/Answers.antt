-- By the search for a stray bit.
use Rattle.std.proofs.Common.{◌≡◌, ◌∙◌, rules}
use Rattle.std.proofs.lemmas.Result.{err_from_is_err_and}
use Rattle.format.proofs.Layouts.{layout_bounds}
use Rattle.totals_spec.proofs.refusals.AcceptedCalls.{sum-accepts}
use Rattle.reduction.proofs.Items.{sum-summable}
use Rattle.reduction.proofs.Widths.{narrow-known}
use Rattle.totals.proofs.Answers.{sum-strayed, sum-unstrayed, sum-told}
use Rattle.totals.proofs.Refusals.{summand-is}
use Rattle.targets.proofs.Shown.{refused-shown, told-as}
use Rattle.totals.proofs.Totalled.{sum-is}
use Rattle.totals_spec.specs.terms.Terms.{item}
use Rattle.totals_spec.specs.sums.Totals.{is_square}
use Rattle.binary.specs.Summands.{summand_in}
use Rattle.targets.proofs.estimate.list_sum.Goals as goal

pub returns-in_err-no_stray-clause-answer : goal.returns-in_err-no_stray-clause-answer
returns-in_err-no_stray-clause-answer g c =
    let p = err_from_is_err_and c.from_residual.result c.from_residual.ensures.1 in
    let (some, is) = c.in_err-no_stray.ensures {u = tt} in
    rw (p.1, p.2, is) (refused-shown _ _ _ _ _ (sum-strayed _ _ _ _ c.requires.0 some))

pub sum_in-total-requires-clause-known : goal.sum_in-total-requires-clause-known
sum_in-total-requires-clause-known g c =
    let a = sum-accepts _ _ _ _ (sum-unstrayed _ _ _ _ c.requires.0 (c.in_ok-no_stray.ensures {u = tt})) in
    (narrow-known _ (layout_bounds c.args.layout), a.settings, c.requires.1)

pub sum_in-total-requires-clause-summable : goal.sum_in-total-requires-clause-summable
sum_in-total-requires-clause-summable g c =
    let a = sum-accepts _ _ _ _ (sum-unstrayed _ _ _ _ c.requires.0 (c.in_ok-no_stray.ensures {u = tt})) in
    sum-summable c.args.layout _ _ _ a.few

pub returns-clause-answer : goal.returns-clause-answer
unfolding item
returns-clause-answer g c =
    let square : c.eq.result ≡ is_square (summand_in c.args.summand) = search rules in
    let total = sum-is c.args.layout _ _ _ ∙ rw (summand-is c.args.summand) at (sum-told _ _ _ _ c.requires.0 (c.in_ok-no_stray.ensures {u = tt})) in
    told-as _ _ _ square total (c.told.ensures.answer _ _ c.sum_in-total.ensures)

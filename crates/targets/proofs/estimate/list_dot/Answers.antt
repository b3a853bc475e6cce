-- By the search for a stray bit, in the left list first.
use Rattle.std.proofs.Common.{◌∙◌, refl}
use Rattle.std.proofs.lemmas.Result.{err_from_is_err_and}
use Rattle.format.proofs.Layouts.{layout_bounds}
use Rattle.totals_spec.specs.terms.Terms.{pair_item}
use Rattle.totals_spec.proofs.refusals.AcceptedCalls.{dot-accepts}
use Rattle.reduction.proofs.Items.{dot-summable}
use Rattle.reduction.proofs.Widths.{narrow-known}
use Rattle.totals.proofs.Answers.{dot-strayed-left, dot-strayed-right, dot-unstrayed, dot-told}
use Rattle.targets.proofs.Shown.{refused-shown, told-as}
use Rattle.totals.proofs.Totalled.{dot-is}
use Rattle.targets.proofs.estimate.list_dot.Goals as goal

pub returns-in_err-no_stray-clause-answer : goal.returns-in_err-no_stray-clause-answer
returns-in_err-no_stray-clause-answer g c =
    let p = err_from_is_err_and c.from_residual.result c.from_residual.ensures.1 in
    let (some, is) = c.in_err-no_stray.ensures {u = tt} in
    rw (p.1, p.2, is) (refused-shown _ _ _ _ _ (dot-strayed-left _ _ _ _ c.requires.0 some))

pub returns-in_err-no_stray-2-clause-answer : goal.returns-in_err-no_stray-2-clause-answer
returns-in_err-no_stray-2-clause-answer g c =
    let p = err_from_is_err_and c.from_residual-in_err-no_stray-2.result c.from_residual-in_err-no_stray-2.ensures.1 in
    let (some, is) = c.in_err-no_stray-2.ensures {u = tt} in
    rw (p.1, p.2, is) (refused-shown _ _ _ _ _ (dot-strayed-right _ _ _ _ c.requires.0 (c.in_ok-no_stray.ensures {u = tt}) some))

pub dot_in-total-requires-clause-as_long : goal.dot_in-total-requires-clause-as_long
dot_in-total-requires-clause-as_long g c =
    let a = dot-accepts _ _ _ _ (dot-unstrayed _ _ _ _ c.requires.0 (c.in_ok-no_stray.ensures {u = tt}) (c.in_ok-no_stray-2.ensures {u = tt})) in
    a.same

pub dot_in-total-requires-clause-known : goal.dot_in-total-requires-clause-known
dot_in-total-requires-clause-known g c =
    let a = dot-accepts _ _ _ _ (dot-unstrayed _ _ _ _ c.requires.0 (c.in_ok-no_stray.ensures {u = tt}) (c.in_ok-no_stray-2.ensures {u = tt})) in
    (narrow-known _ (layout_bounds c.args.layout), a.settings, c.requires.1)

pub dot_in-total-requires-clause-summable : goal.dot_in-total-requires-clause-summable
dot_in-total-requires-clause-summable g c =
    let a = dot-accepts _ _ _ _ (dot-unstrayed _ _ _ _ c.requires.0 (c.in_ok-no_stray.ensures {u = tt}) (c.in_ok-no_stray-2.ensures {u = tt})) in
    dot-summable c.args.layout _ _ _ a.same a.few

pub returns-clause-answer : goal.returns-clause-answer
unfolding pair_item
returns-clause-answer g c =
    let total = dot-is c.args.layout _ _ ∙ dot-told _ _ _ _ c.requires.0 (c.in_ok-no_stray.ensures {u = tt}) (c.in_ok-no_stray-2.ensures {u = tt}) in
    told-as _ _ _ refl total (c.told.ensures.answer _ _ c.dot_in-total.ensures)

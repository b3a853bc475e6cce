-- By the search for a stray bit, in the left list first.
use Rattle.std.proofs.Common.{◌∙◌}
use Rattle.std.proofs.lemmas.Result.{err_from_is_err_and}
use Rattle.format.proofs.Layouts.{layout_bounds}
use Rattle.totals_spec.proofs.refusals.AcceptedCalls.{dot-accepts}
use Rattle.reduction.proofs.Items.{dot-summable}
use Rattle.reduction.proofs.Widths.{narrow, narrow-known}
use Rattle.totals.proofs.Answers.{dot-strayed-left, dot-strayed-right, dot-unstrayed, dot-told}
use Rattle.totals.proofs.Totalled.{dot-is}
use Rattle.totals.proofs.lists.dot.Goals as goal

pub returns-in_err-no_stray : goal.returns-in_err-no_stray
returns-in_err-no_stray g c =
    let p = err_from_is_err_and c.from_residual.result c.from_residual.ensures.1 in
    let (some, is) = c.in_err-no_stray.ensures {u = tt} in
    rw (p.1, p.2, is) (dot-strayed-left _ _ _ _ c.requires some)

pub returns-in_err-no_stray-2 : goal.returns-in_err-no_stray-2
returns-in_err-no_stray-2 g c =
    let p = err_from_is_err_and c.from_residual-in_err-no_stray-2.result c.from_residual-in_err-no_stray-2.ensures.1 in
    let (some, is) = c.in_err-no_stray-2.ensures {u = tt} in
    rw (p.1, p.2, is) (dot-strayed-right _ _ _ _ c.requires (c.in_ok-no_stray.ensures {u = tt}) some)

pub dot_of-total-requires-clause-as_long : goal.dot_of-total-requires-clause-as_long
dot_of-total-requires-clause-as_long g c =
    let a = dot-accepts _ _ _ _ (dot-unstrayed _ _ _ _ c.requires (c.in_ok-no_stray.ensures {u = tt}) (c.in_ok-no_stray-2.ensures {u = tt})) in
    a.same

pub dot_of-total-requires-clause-known : goal.dot_of-total-requires-clause-known
dot_of-total-requires-clause-known g c =
    let a = dot-accepts _ _ _ _ (dot-unstrayed _ _ _ _ c.requires (c.in_ok-no_stray.ensures {u = tt}) (c.in_ok-no_stray-2.ensures {u = tt})) in
    (narrow-known _ (layout_bounds c.args.layout), a.settings)

pub dot_of-total-requires-clause-summable : goal.dot_of-total-requires-clause-summable
dot_of-total-requires-clause-summable g c =
    let a = dot-accepts _ _ _ _ (dot-unstrayed _ _ _ _ c.requires (c.in_ok-no_stray.ensures {u = tt}) (c.in_ok-no_stray-2.ensures {u = tt})) in
    dot-summable c.args.layout _ _ _ a.same a.few

pub returns : goal.returns
returns g c =
    rw (narrow _ (layout_bounds c.args.layout)) at c.dot_of-total.ensures
    ∙ dot-is c.args.layout _ _
    ∙ dot-told _ _ _ _ c.requires (c.in_ok-no_stray.ensures {u = tt}) (c.in_ok-no_stray-2.ensures {u = tt})

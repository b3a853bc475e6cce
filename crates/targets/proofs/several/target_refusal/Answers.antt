-- Test by test.
use Rattle.std.proofs.Common.{ap, sym, ◌∙◌}
use Rattle.std.proofs.lemmas.Result.{err_from_is_err_and}
use borrow.Author.Tests.{ltb-true, ltb-false}
use Rattle.totals.specs.Refusal.{number_of}
use Rattle.targets.proofs.Targets.{target-first, target-setting, target-few}
use Rattle.targets.proofs.several.target_refusal.Goals as goal

pub returns-in_err-aim : goal.returns-in_err-aim
returns-in_err-aim c =
    let p = err_from_is_err_and c.from_residual.result c.from_residual.ensures.1 in
    rw (p.1, p.2) (target-first _ c.args.denormals_are_zero _ _ _ _ c.in_err-aim.ensures)

pub returns-in_err-refuse_if : goal.returns-in_err-refuse_if
returns-in_err-refuse_if c =
    let p = err_from_is_err_and c.from_residual-in_err-refuse_if.result c.from_residual-in_err-refuse_if.ensures.1 in
    let (large, is) = c.in_err-refuse_if.ensures {u = tt} in
    rw (p.1, p.2) (ap number_of is ∙ target-setting _ _ _ _ _ (sym c.in_ok-aim.ensures.3) (ltb-true _ _ large))

pub returns-in_err-few : goal.returns-in_err-few
returns-in_err-few c =
    let p = err_from_is_err_and c.from_residual-in_err-few.result c.from_residual-in_err-few.ensures.1 in
    let small = ltb-false _ _ (c.in_ok-refuse_if.ensures {u = tt}) in
    rw (p.1, p.2) (c.in_err-few.ensures {u = tt} ∙ target-few _ _ _ _ _ (sym c.in_ok-aim.ensures.3) small)

pub returns : goal.returns
returns c =
    let a = c.in_ok-aim.ensures in
    let small = ltb-false _ _ (c.in_ok-refuse_if.ensures {u = tt}) in
    (a.0, a.1, a.2, sym (target-few _ _ _ _ _ (sym a.3) small) ∙ sym (c.in_ok-few.ensures {u = tt}))

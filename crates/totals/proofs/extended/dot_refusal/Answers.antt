-- Test by test.
use Rattle.std.proofs.Common.{ap, sym, ◌∙◌}
use Rattle.std.proofs.lemmas.Result.{err_from_is_err_and}
use borrow.Author.Tests.{not-true, not-false}
use Rattle.totals_spec.proofs.ten_bytes.Calls.{tens-values}
use Rattle.totals.specs.Refusal.{number_of}
use Rattle.totals.proofs.Tens.{dot-first, dot-unlike, dot-few}
use Rattle.totals.proofs.extended.dot_refusal.Goals as goal

pub returns-in_err-env : goal.returns-in_err-env
returns-in_err-env c =
    let p = err_from_is_err_and c.from_residual.result c.from_residual.ensures.1 in
    rw (p.1, p.2) (dot-first _ _ _ c.in_err-env.ensures _ _)

pub returns-in_err-refuse_if : goal.returns-in_err-refuse_if
returns-in_err-refuse_if c =
    let p = err_from_is_err_and c.from_residual-in_err-refuse_if.result c.from_residual-in_err-refuse_if.ensures.1 in
    let (other, is) = c.in_err-refuse_if.ensures {u = tt} in
    let left = (tens-values c.args.left.now).0 in
    let right = (tens-values c.args.right.now).0 in
    rw (p.1, p.2) (ap number_of is ∙ dot-unlike _ _ (sym c.in_ok-env.ensures.1) _ _ _ _ left right (not-true _ other))

pub returns-in_err-few : goal.returns-in_err-few
returns-in_err-few c =
    let p = err_from_is_err_and c.from_residual-in_err-few.result c.from_residual-in_err-few.ensures.1 in
    let same = not-false _ (c.in_ok-refuse_if.ensures {u = tt}) in
    let left = (tens-values c.args.left.now).0 in
    let right = (tens-values c.args.right.now).0 in
    rw (p.1, p.2) (c.in_err-few.ensures {u = tt} ∙ dot-few _ _ (sym c.in_ok-env.ensures.1) _ _ _ _ left right same)

pub returns : goal.returns
returns c =
    let a = c.in_ok-env.ensures in
    let same = not-false _ (c.in_ok-refuse_if.ensures {u = tt}) in
    let left = (tens-values c.args.left.now).0 in
    let right = (tens-values c.args.right.now).0 in
    (a.0, sym (dot-few _ _ (sym a.1) _ _ _ _ left right same) ∙ sym (c.in_ok-few.ensures {u = tt}))

-- The total where no test refuses it, and the refusal that a test gives.
use Rattle.std.proofs.Common.{◌≢◌, sym, ◌∙◌, rules}
use Rattle.std.proofs.lemmas.Result.{err_from_is_err_and}
use Rattle.totals.proofs.Answers.{sum-stopped}
use Rattle.targets.proofs.Shown.{refused-shown, sum-none, sum-some, sum-asked}
use Rattle.targets.proofs.estimate.sum_of.Goals as goal

pub returns-in_err-refuse_if-clause-answer : goal.returns-in_err-refuse_if-clause-answer
returns-in_err-refuse_if-clause-answer g c =
    let p = err_from_is_err_and c.from_residual.result c.from_residual.ensures.1 in
    rw (p.1, p.2, c.in_err-refuse_if.ensures.1) (sum-none _ _ _ _ _ (search rules))

pub returns-in_err-asked-clause-answer : goal.returns-in_err-asked-clause-answer
returns-in_err-asked-clause-answer g c =
    let p = err_from_is_err_and c.from_residual-in_err-asked.result c.from_residual-in_err-asked.ensures.1 in
    rw (p.1, p.2)
    (refused-shown _ _ _ _ _ (sum-stopped _ _ _ _ _ (sym c.count.ensures.value) _ c.in_err-asked.ensures) ∙ sum-some _ _ _ _ _ (search rules))

pub returns-clause-answer : goal.returns-clause-answer
returns-clause-answer g c =
    let (f, e, u, none) = c.in_ok-asked.ensures in
    let some : c.args.allowance ≢ 0 = search rules in
    c.list_sum.ensures.answer ∙ sum-asked _ _ c.in_ok-asked.summand _ _ f e u some

-- The total where no test refuses it, and the refusal that a test gives.
use Rattle.std.proofs.Common.{sym}
use Rattle.std.proofs.lemmas.Result.{err_from_is_err_and}
use Rattle.totals.proofs.Answers.{dot-stopped}
use Rattle.totals.proofs.dot_of.Goals as goal

pub returns-in_err-asked : goal.returns-in_err-asked
returns-in_err-asked g c =
    let p = err_from_is_err_and c.from_residual.result c.from_residual.ensures.1 in
    rw (p.1, p.2) (dot-stopped _ _ _ _ _ _ (sym c.count.ensures.value) (sym c.count-2.ensures.value) _ c.in_err-asked.ensures)

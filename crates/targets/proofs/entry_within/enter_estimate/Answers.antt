-- A refused call writes nothing, and an accepted one its words.
use Rattle.std.proofs.Common.{refl}
use Rattle.std.specs.Prelude.{Err}
use Rattle.totals.proofs.Refusals.{number-some}
use Rattle.targets.specs.Estimates.{estimate_of, estimate_in}
use Rattle.targets.proofs.EstimateWritten.{shown, estimate-refused, estimate-entered}
use Rattle.targets.proofs.entry_within.enter_estimate.Goals as goal

pub code-requires : goal.code-requires
code-requires c = (rw c.in-Err.is at c.requires.0).answer.place

pub returns-in-Err : goal.returns-in-Err
returns-in-Err c =
    rw c.in-Err.is (estimate-refused (estimate_in (Err c.in-Err.refusal)) _ _ (number-some c.in-Err.refusal) c.code.ensures)

pub returns-in-Ok : goal.returns-in-Ok
returns-in-Ok c =
    let e = c.in-Ok.accepted in
    let s = shown e in
    rw c.in-Ok.is
    (estimate-entered (estimate_of e) _ (rw c.in-Ok.is at c.requires.0) s.0 s.1 refl c.words_of-words.ensures c.put_words.ensures
    c.put_words-in-Ok.ensures)

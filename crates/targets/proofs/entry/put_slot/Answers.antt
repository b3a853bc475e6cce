-- Word by word.
use Rattle.totals_spec.specs.sums.Totals.{refused}
use Rattle.reduction.specs.Answered.{answer_of}
use Rattle.totals.specs.Refusal.{number_of, place_of}
use Rattle.targets.proofs.TargetWritten.{slot-laid}
use Rattle.targets.proofs.entry.put_slot.Goals as goal

pub code-requires : goal.code-requires
code-requires c = (rw c.in-Err.is at c.requires.1).place

pub returns-in-Ok : goal.returns-in-Ok
returns-in-Ok c =
    let (room, fits) = c.requires in
    rw c.in-Ok.is (slot-laid (answer_of c.in-Ok.record) _ _ room (rw c.in-Ok.is at fits).flags _ _ _ _ c.put_word.ensures c.put_word-in-Ok.ensures c.put_word-in-Ok-2.ensures
    c.put_word-in-Ok-3.ensures)

pub returns-in-Err : goal.returns-in-Err
returns-in-Err c =
    let (room, fits) = c.requires in
    let e = c.in-Err.refusal in
    rw c.in-Err.is (slot-laid (refused (number_of e) (place_of e)) _ _ room (rw c.in-Err.is at fits).flags _ _ _ _ (rw c.code.ensures at c.put_word-in-Err.ensures)
    c.put_word-in-Err-2.ensures c.put_word-in-Err-3.ensures c.put_word-in-Err-4.ensures)

-- By the refusal.
use Rattle.std.proofs.Common.{refl}
use Rattle.reduction.specs.Answered.{answer_of}
use Rattle.totals_spec.specs.sums.Totals.{refused}
use Rattle.totals.specs.Refusal.{number_of, place_of}
use Rattle.totals.proofs.Refusals.{number-some}
use Rattle.totals.proofs.Written.{enters-written, enters-refused}
use Rattle.totals.proofs.entry.enter.Goals as goal

pub code-requires : goal.code-requires
code-requires c = (rw c.in-Err.is at c.requires).place

pub returns-in-Err : goal.returns-in-Err
returns-in-Err c =
    let e = c.in-Err.refusal in
    rw (c.in-Err.is, c.code.ensures) (enters-refused (refused (number_of e) (place_of e)) _ (number-some e))

pub returns-in-Ok : goal.returns-in-Ok
returns-in-Ok c =
    rw c.in-Ok.is
    (enters-written (answer_of c.in-Ok.record) _ _ _ _ refl (rw c.in-Ok.is at c.requires).flags c.put_word.ensures c.put_word-in-Ok.ensures
    c.put_word-in-Ok-2.ensures)

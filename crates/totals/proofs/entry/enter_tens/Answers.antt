-- The four words are those of the record.
use Rattle.std.proofs.Common.{refl, true, arith}
use Rattle.reduction.specs.Answered.{answer_as}
use Rattle.totals.proofs.Tens.{tens-written}
use Rattle.totals.proofs.entry.enter_tens.Goals as goal

pub returns : goal.returns
returns c =
    let t = c.args.total in
    tens-written (answer_as true t) _ _ _ _ _ t.head t.answer.result c.requires refl (omega arith) (omega arith)
    c.put_word.ensures (rw c.from.ensures at c.put_word-2.ensures) c.put_word-3.ensures c.put_word-4.ensures

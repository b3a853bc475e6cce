use Rattle.promises.proofs.records.DigitsRead.{decimal-reads}
use Rattle.promises.proofs.held_text.decimal_reads.Goals as goal

pub returns : goal.returns
returns c = decimal-reads

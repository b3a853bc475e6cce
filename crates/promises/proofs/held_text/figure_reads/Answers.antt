use Rattle.promises.proofs.records.DigitsRead.{figure-reads}
use Rattle.promises.proofs.held_text.figure_reads.Goals as goal

pub returns : goal.returns
returns c = figure-reads

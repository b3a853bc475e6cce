use Rattle.promises.proofs.records.DigitsRead.{hex-reads}
use Rattle.promises.proofs.held_text.hex_reads.Goals as goal

pub returns : goal.returns
returns c = hex-reads

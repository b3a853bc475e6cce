use Rattle.promises.proofs.records.DigitsRead.{pence-line}
use Rattle.promises.proofs.held_text.pence_line.Goals as goal

pub returns : goal.returns
returns c = pence-line

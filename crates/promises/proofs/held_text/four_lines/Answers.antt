use Rattle.promises.proofs.records.DigitsRead.{four-lines}
use Rattle.promises.proofs.held_text.four_lines.Goals as goal

pub returns : goal.returns
returns c = four-lines

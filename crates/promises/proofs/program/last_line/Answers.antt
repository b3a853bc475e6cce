use Rattle.promises.proofs.records.LinesRead.{program-last}
use Rattle.promises.proofs.program.last_line.Goals as goal

pub returns : goal.returns
returns c = program-last

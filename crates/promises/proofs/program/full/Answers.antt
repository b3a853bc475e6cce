use Rattle.promises.proofs.records.LinesRead.{program-full}
use Rattle.promises.proofs.program.full.Goals as goal

pub returns : goal.returns
returns c = program-full

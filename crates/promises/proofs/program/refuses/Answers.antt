use Rattle.promises.proofs.records.LinesRead.{program-refuses}
use Rattle.promises.proofs.program.refuses.Goals as goal

pub returns : goal.returns
returns c = program-refuses

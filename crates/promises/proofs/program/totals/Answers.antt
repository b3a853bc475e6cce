use Rattle.promises.proofs.records.LinesRead.{program-totals}
use Rattle.promises.proofs.program.totals.Goals as goal

pub returns : goal.returns
returns c = program-totals

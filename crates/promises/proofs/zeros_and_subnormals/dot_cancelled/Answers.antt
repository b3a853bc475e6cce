use Rattle.promises.proofs.records.OnlyZeros.{dot-cancelled}
use Rattle.promises.proofs.zeros_and_subnormals.dot_cancelled.Goals as goal

pub returns : goal.returns
returns c = dot-cancelled

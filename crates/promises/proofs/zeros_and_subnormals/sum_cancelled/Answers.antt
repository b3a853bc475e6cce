use Rattle.promises.proofs.records.OnlyZeros.{sum-cancelled}
use Rattle.promises.proofs.zeros_and_subnormals.sum_cancelled.Goals as goal

pub returns : goal.returns
returns c = sum-cancelled

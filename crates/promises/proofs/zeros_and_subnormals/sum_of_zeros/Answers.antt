use Rattle.promises.proofs.records.OnlyZeros.{sum-of-zeros}
use Rattle.promises.proofs.zeros_and_subnormals.sum_of_zeros.Goals as goal

pub returns : goal.returns
returns c = sum-of-zeros

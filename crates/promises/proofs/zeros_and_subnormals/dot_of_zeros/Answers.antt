use Rattle.promises.proofs.records.OnlyZeros.{dot-of-zeros}
use Rattle.promises.proofs.zeros_and_subnormals.dot_of_zeros.Goals as goal

pub returns : goal.returns
returns c = dot-of-zeros

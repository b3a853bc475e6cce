use Rattle.promises.proofs.records.OnlyZeros.{magnitudes-of-zeros}
use Rattle.promises.proofs.zeros_and_subnormals.magnitudes_of_zeros.Goals as goal

pub returns : goal.returns
returns c = magnitudes-of-zeros

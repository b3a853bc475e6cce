use Rattle.promises.proofs.records.OnlyZeros.{zero-bits}
use Rattle.promises.proofs.zeros_and_subnormals.zero_bits.Goals as goal

pub returns : goal.returns
returns c = zero-bits

use Rattle.totals_spec.proofs.numbers.LowestAndHighestBit.{low-bit}
use Rattle.promises.proofs.passes.low_bit.Goals as goal

pub returns : goal.returns
returns c = low-bit

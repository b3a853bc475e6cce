use Rattle.totals_spec.proofs.numbers.LowestAndHighestBit.{size-is-length}
use Rattle.promises.proofs.passes.size_is_length.Goals as goal

pub returns : goal.returns
returns c = size-is-length

use Rattle.figures_spec.proofs.ranges.NarrowestPair.{range-zero}
use Rattle.promises.proofs.ranges.zero.Goals as goal

pub returns : goal.returns
returns c = range-zero

use Rattle.figures_spec.proofs.ranges.NarrowestPair.{range-plain}
use Rattle.promises.proofs.ranges.plain_sums.Goals as goal

pub returns : goal.returns
returns c = range-plain

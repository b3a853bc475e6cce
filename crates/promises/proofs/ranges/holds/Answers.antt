use Rattle.figures_spec.proofs.ranges.NarrowestPair.{range-holds}
use Rattle.promises.proofs.ranges.holds.Goals as goal

pub returns : goal.returns
returns c = range-holds

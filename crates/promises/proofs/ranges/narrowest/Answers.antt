use Rattle.figures_spec.proofs.ranges.NarrowestPair.{range-narrowest}
use Rattle.promises.proofs.ranges.narrowest.Goals as goal

pub returns : goal.returns
returns c = range-narrowest

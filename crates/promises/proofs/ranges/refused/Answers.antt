use Rattle.figures_spec.proofs.ranges.Refused.{range-refused}
use Rattle.promises.proofs.ranges.refused.Goals as goal

pub returns : goal.returns
returns c = range-refused

use Rattle.figures_spec.proofs.ranges.Refused.{range-refused-exactly}
use Rattle.promises.proofs.ranges.refused_exactly.Goals as goal

pub returns : goal.returns
returns c = range-refused-exactly

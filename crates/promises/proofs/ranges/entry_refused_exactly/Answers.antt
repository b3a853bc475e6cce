use Rattle.figures_spec.proofs.ranges.Refused.{range-entry-refused-exactly}
use Rattle.promises.proofs.ranges.entry_refused_exactly.Goals as goal

pub returns : goal.returns
returns c = range-entry-refused-exactly

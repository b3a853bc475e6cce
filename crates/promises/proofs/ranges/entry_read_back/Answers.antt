use Rattle.figures_spec.proofs.ranges.Refused.{range-entry-read-back}
use Rattle.promises.proofs.ranges.entry_read_back.Goals as goal

pub returns : goal.returns
returns c = range-entry-read-back

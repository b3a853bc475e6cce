use Rattle.figures_spec.proofs.ranges.Refused.{range-entry-refused}
use Rattle.promises.proofs.ranges.entry_refused.Goals as goal

pub returns : goal.returns
returns c = range-entry-refused

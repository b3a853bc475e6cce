use Rattle.figures_spec.proofs.ranges.Refused.{range-entries-kept}
use Rattle.promises.proofs.ranges.entries_kept.Goals as goal

pub returns : goal.returns
returns c = range-entries-kept

use Rattle.targets_spec.proofs.within.Entry.{within-entry-refused}
use Rattle.promises.proofs.within.entry_refused.Goals as goal

pub returns : goal.returns
returns c = within-entry-refused

use Rattle.targets_spec.proofs.within.Entry.{within-entry-read-back}
use Rattle.promises.proofs.within.entry_read_back.Goals as goal

pub returns : goal.returns
returns c = within-entry-read-back

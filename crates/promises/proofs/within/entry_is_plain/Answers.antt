use Rattle.targets_spec.proofs.within.Entry.{within-entry-plain}
use Rattle.promises.proofs.within.entry_is_plain.Goals as goal

pub returns : goal.returns
returns c = within-entry-plain

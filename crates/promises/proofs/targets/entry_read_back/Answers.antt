use Rattle.targets_spec.proofs.several.Entry.{target-entry-read-back}
use Rattle.promises.proofs.targets.entry_read_back.Goals as goal

pub returns : goal.returns
returns c = target-entry-read-back

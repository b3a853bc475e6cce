use Rattle.targets_spec.proofs.several.Entry.{target-entry-refused}
use Rattle.promises.proofs.targets.entry_refused.Goals as goal

pub returns : goal.returns
returns c = target-entry-refused

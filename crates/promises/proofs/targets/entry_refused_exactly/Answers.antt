use Rattle.targets_spec.proofs.several.Entry.{target-entry-refusal}
use Rattle.promises.proofs.targets.entry_refused_exactly.Goals as goal

pub returns : goal.returns
returns c = target-entry-refusal

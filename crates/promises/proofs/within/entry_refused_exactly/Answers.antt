use Rattle.targets_spec.proofs.within.Entry.{within-entry-refusal}
use Rattle.promises.proofs.within.entry_refused_exactly.Goals as goal

pub returns : goal.returns
returns c = within-entry-refusal

use Rattle.targets_spec.proofs.contribution.Records.{contribution-entry-refusal}
use Rattle.promises.proofs.contributions.entry_refused_exactly.Goals as goal

pub returns : goal.returns
returns c = contribution-entry-refusal

use Rattle.targets_spec.proofs.contribution.Records.{contribution-entry-refused}
use Rattle.promises.proofs.contributions.entry_refused.Goals as goal

pub returns : goal.returns
returns c = contribution-entry-refused

use Rattle.targets_spec.proofs.contribution.Records.{contribution-entry-read-back}
use Rattle.promises.proofs.contributions.entry_read_back.Goals as goal

pub returns : goal.returns
returns c = contribution-entry-read-back

use Rattle.targets_spec.proofs.contribution.Records.{contribution-refused}
use Rattle.promises.proofs.contributions.refused.Goals as goal

pub returns : goal.returns
returns c = contribution-refused

use Rattle.targets_spec.proofs.contribution.Records.{contribution-none}
use Rattle.promises.proofs.contributions.none.Goals as goal

pub returns : goal.returns
returns c = contribution-none

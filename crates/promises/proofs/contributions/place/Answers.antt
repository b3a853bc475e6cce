use Rattle.targets_spec.proofs.contribution.Records.{contribution-place}
use Rattle.promises.proofs.contributions.place.Goals as goal

pub returns : goal.returns
returns c = contribution-place

use Rattle.targets_spec.proofs.contribution.Records.{contribution-order}
use Rattle.promises.proofs.contributions.order.Goals as goal

pub returns : goal.returns
returns c = contribution-order

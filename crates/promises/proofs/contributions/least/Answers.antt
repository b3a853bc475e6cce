use Rattle.targets_spec.proofs.contribution.LeastNumber.{contribution-least}
use Rattle.promises.proofs.contributions.least.Goals as goal

pub returns : goal.returns
returns c = contribution-least

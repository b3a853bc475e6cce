use Rattle.targets_spec.proofs.contribution.LeastNumber.{contribution-rises}
use Rattle.promises.proofs.contributions.sum_rises.Goals as goal

pub returns : goal.returns
returns c = contribution-rises

use Rattle.targets_spec.proofs.contribution.RoundingRises.{rounding-rises}
use Rattle.promises.proofs.contributions.rounding_rises.Goals as goal

pub returns : goal.returns
returns c = rounding-rises

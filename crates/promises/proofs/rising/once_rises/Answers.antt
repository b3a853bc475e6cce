use Rattle.promises.proofs.roundings.RoundingRises.{once-rises}
use Rattle.promises.proofs.rising.once_rises.Goals as goal

pub returns : goal.returns
returns c = once-rises

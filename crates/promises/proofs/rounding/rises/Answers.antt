use Rattle.promises.proofs.roundings.OfEveryRounding.{rises}
use Rattle.promises.proofs.rounding.rises.Goals as goal

pub returns : goal.returns
returns c = rises

use Rattle.promises.proofs.roundings.TotalsRise.{dot-rises}
use Rattle.promises.proofs.rising.dot_rises.Goals as goal

pub returns : goal.returns
returns c = dot-rises

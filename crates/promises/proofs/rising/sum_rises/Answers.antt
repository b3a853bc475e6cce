use Rattle.promises.proofs.roundings.TotalsRise.{sum-rises}
use Rattle.promises.proofs.rising.sum_rises.Goals as goal

pub returns : goal.returns
returns c = sum-rises

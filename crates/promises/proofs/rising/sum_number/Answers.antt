use Rattle.promises.proofs.roundings.TotalsRise.{sum-number}
use Rattle.promises.proofs.rising.sum_number.Goals as goal

pub returns : goal.returns
returns c = sum-number

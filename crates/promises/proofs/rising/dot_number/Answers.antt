use Rattle.promises.proofs.roundings.TotalsRise.{dot-number}
use Rattle.promises.proofs.rising.dot_number.Goals as goal

pub returns : goal.returns
returns c = dot-number

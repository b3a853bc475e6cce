use Rattle.promises.proofs.roundings.TotalsRise.{amounts-rise}
use Rattle.promises.proofs.rising.amounts_rise.Goals as goal

pub returns : goal.returns
returns c = amounts-rise

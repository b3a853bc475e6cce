use Rattle.promises.proofs.roundings.TotalsRise.{values-rise}
use Rattle.promises.proofs.rising.values_rise.Goals as goal

pub returns : goal.returns
returns c = values-rise

use Rattle.promises.proofs.roundings.TotalsRise.{factors-rise}
use Rattle.promises.proofs.rising.factors_rise.Goals as goal

pub returns : goal.returns
returns c = factors-rise

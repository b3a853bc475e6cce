use Rattle.promises.proofs.roundings.FinerUnits.{once-finer}
use Rattle.promises.proofs.rounding.same_in_finer_units.Goals as goal

pub returns : goal.returns
returns c = once-finer

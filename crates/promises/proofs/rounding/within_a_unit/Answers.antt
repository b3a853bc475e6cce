use Rattle.promises.proofs.roundings.OfEveryRounding.{within-unit}
use Rattle.promises.proofs.rounding.within_a_unit.Goals as goal

pub returns : goal.returns
returns c = within-unit

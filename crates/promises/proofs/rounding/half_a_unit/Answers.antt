use Rattle.promises.proofs.roundings.OfEveryRounding.{half-unit}
use Rattle.promises.proofs.rounding.half_a_unit.Goals as goal

pub returns : goal.returns
returns c = half-unit

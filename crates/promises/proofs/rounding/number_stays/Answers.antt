use Rattle.promises.proofs.roundings.OfEveryRounding.{number-stays}
use Rattle.promises.proofs.rounding.number_stays.Goals as goal

pub returns : goal.returns
returns c = number-stays

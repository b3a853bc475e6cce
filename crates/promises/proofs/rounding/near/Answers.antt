use Rattle.promises.proofs.roundings.OfEveryRounding.{once-near}
use Rattle.promises.proofs.rounding.near.Goals as goal

pub returns : goal.returns
returns c = once-near

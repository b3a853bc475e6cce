use Rattle.promises.proofs.roundings.RoundingRises.{once-nan}
use Rattle.promises.proofs.rising.once_nan.Goals as goal

pub returns : goal.returns
returns c = once-nan

use Rattle.promises.proofs.roundings.SumsRoundedOnce.{zero-only}
use Rattle.promises.proofs.rounding.zero_only.Goals as goal

pub returns : goal.returns
returns c = zero-only

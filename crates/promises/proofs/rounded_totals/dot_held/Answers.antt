use Rattle.promises.proofs.roundings.SumsRoundedOnce.{dot-held}
use Rattle.promises.proofs.rounded_totals.dot_held.Goals as goal

pub returns : goal.returns
returns c = dot-held

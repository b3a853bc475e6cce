use Rattle.promises.proofs.roundings.SumsRoundedOnce.{dot-near}
use Rattle.promises.proofs.rounded_totals.dot_near.Goals as goal

pub returns : goal.returns
returns c = dot-near

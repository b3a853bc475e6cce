use Rattle.promises.proofs.roundings.SumsRoundedOnce.{sum-near}
use Rattle.promises.proofs.rounded_totals.sum_near.Goals as goal

pub returns : goal.returns
returns c = sum-near

use Rattle.promises.proofs.roundings.SumsRoundedOnce.{sum-cancels}
use Rattle.promises.proofs.rounded_totals.sum_cancels.Goals as goal

pub returns : goal.returns
returns c = sum-cancels

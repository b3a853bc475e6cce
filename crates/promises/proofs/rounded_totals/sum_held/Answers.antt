use Rattle.promises.proofs.roundings.SumsRoundedOnce.{sum-held}
use Rattle.promises.proofs.rounded_totals.sum_held.Goals as goal

pub returns : goal.returns
returns c = sum-held

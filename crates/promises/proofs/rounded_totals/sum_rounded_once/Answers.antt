use Rattle.promises.proofs.roundings.SumsRoundedOnce.{sum-rounded-once}
use Rattle.promises.proofs.rounded_totals.sum_rounded_once.Goals as goal

pub returns : goal.returns
returns c = sum-rounded-once

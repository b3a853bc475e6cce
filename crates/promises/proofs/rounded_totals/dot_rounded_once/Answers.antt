use Rattle.promises.proofs.roundings.SumsRoundedOnce.{dot-rounded-once}
use Rattle.promises.proofs.rounded_totals.dot_rounded_once.Goals as goal

pub returns : goal.returns
returns c = dot-rounded-once

use Rattle.promises.proofs.roundings.SumsRoundedOnce.{extended-rounded-once}
use Rattle.promises.proofs.rounded_totals.extended_rounded_once.Goals as goal

pub returns : goal.returns
returns c = extended-rounded-once

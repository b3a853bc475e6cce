use Rattle.promises.proofs.roundings.SumsRoundedOnce.{rounded-one}
use Rattle.promises.proofs.rounded_totals.one_record.Goals as goal

pub returns : goal.returns
returns c = rounded-one

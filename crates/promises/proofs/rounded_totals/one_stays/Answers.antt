use Rattle.promises.proofs.roundings.OneElement.{one-stays}
use Rattle.promises.proofs.rounded_totals.one_stays.Goals as goal

pub returns : goal.returns
returns c = one-stays

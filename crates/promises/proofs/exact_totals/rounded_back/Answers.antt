use Rattle.totals_spec.proofs.rounding.RoundedBack.{rounded-back}
use Rattle.promises.proofs.exact_totals.rounded_back.Goals as goal

pub returns : goal.returns
returns c = rounded-back

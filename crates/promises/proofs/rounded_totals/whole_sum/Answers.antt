use Rattle.promises.proofs.roundings.WholeNumbers.{whole-sum}
use Rattle.promises.proofs.rounded_totals.whole_sum.Goals as goal

pub returns : goal.returns
returns c = whole-sum

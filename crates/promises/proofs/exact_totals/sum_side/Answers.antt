use Rattle.totals_spec.proofs.sums.Sides.{sum-side}
use Rattle.promises.proofs.exact_totals.sum_side.Goals as goal

pub returns : goal.returns
returns c = sum-side

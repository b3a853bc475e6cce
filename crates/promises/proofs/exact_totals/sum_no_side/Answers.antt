use Rattle.totals_spec.proofs.sums.Sides.{sum-no-side}
use Rattle.promises.proofs.exact_totals.sum_no_side.Goals as goal

pub returns : goal.returns
returns c = sum-no-side

use Rattle.totals_spec.proofs.sums.Sides.{dot-no-side}
use Rattle.promises.proofs.exact_totals.dot_no_side.Goals as goal

pub returns : goal.returns
returns c = dot-no-side

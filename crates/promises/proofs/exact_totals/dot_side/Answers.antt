use Rattle.totals_spec.proofs.sums.Sides.{dot-side}
use Rattle.promises.proofs.exact_totals.dot_side.Goals as goal

pub returns : goal.returns
returns c = dot-side

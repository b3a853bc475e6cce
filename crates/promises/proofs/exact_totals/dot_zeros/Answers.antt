use Rattle.totals_spec.proofs.sums.ZeroTotals.{dot-zeros}
use Rattle.promises.proofs.exact_totals.dot_zeros.Goals as goal

pub returns : goal.returns
returns c = dot-zeros

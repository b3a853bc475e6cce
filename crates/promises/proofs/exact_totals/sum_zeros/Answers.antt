use Rattle.totals_spec.proofs.sums.ZeroTotals.{sum-zeros}
use Rattle.promises.proofs.exact_totals.sum_zeros.Goals as goal

pub returns : goal.returns
returns c = sum-zeros

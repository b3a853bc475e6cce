use Rattle.totals_spec.proofs.sums.FiniteLists.{sum-exact}
use Rattle.promises.proofs.exact_totals.sum_exact.Goals as goal

pub returns : goal.returns
returns c = sum-exact

use Rattle.totals_spec.proofs.sums.FiniteLists.{dot-exact}
use Rattle.promises.proofs.exact_totals.dot_exact.Goals as goal

pub returns : goal.returns
returns c = dot-exact

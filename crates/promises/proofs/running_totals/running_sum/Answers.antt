use Rattle.running_spec.proofs.Promises.{running-sum}
use Rattle.promises.proofs.running_totals.running_sum.Goals as goal

pub returns : goal.returns
returns c = running-sum

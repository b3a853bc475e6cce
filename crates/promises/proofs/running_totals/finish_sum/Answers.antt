use Rattle.running_spec.proofs.Promises.{finish-sum}
use Rattle.promises.proofs.running_totals.finish_sum.Goals as goal

pub returns : goal.returns
returns c = finish-sum

use Rattle.running_spec.proofs.Promises.{finish-plain-sum}
use Rattle.promises.proofs.running_totals.finish_accepted_sum.Goals as goal

pub returns : goal.returns
returns c = finish-plain-sum

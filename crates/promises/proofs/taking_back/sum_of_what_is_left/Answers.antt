use Rattle.running_spec.proofs.Promises.{taken-sum}
use Rattle.promises.proofs.taking_back.sum_of_what_is_left.Goals as goal

pub returns : goal.returns
returns c = taken-sum

use Rattle.running_spec.proofs.Promises.{taken-dot}
use Rattle.promises.proofs.taking_back.dot_of_what_is_left.Goals as goal

pub returns : goal.returns
returns c = taken-dot

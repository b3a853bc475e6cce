use Rattle.running_spec.proofs.Promises.{finish-taken}
use Rattle.promises.proofs.taking_back.finish_is_of_what_is_left.Goals as goal

pub returns : goal.returns
returns c = finish-taken

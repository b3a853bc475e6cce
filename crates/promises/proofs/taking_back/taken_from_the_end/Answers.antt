use Rattle.running_spec.proofs.Promises.{state-taken}
use Rattle.promises.proofs.taking_back.taken_from_the_end.Goals as goal

pub returns : goal.returns
returns c = state-taken

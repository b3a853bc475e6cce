use Rattle.running_spec.proofs.Promises.{saved-apart}
use Rattle.promises.proofs.running_states.saved_apart.Goals as goal

pub returns : goal.returns
returns c = saved-apart

use Rattle.running_spec.proofs.Promises.{saved-opens}
use Rattle.promises.proofs.running_states.saved_opens.Goals as goal

pub returns : goal.returns
returns c = saved-opens

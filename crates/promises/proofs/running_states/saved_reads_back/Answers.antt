use Rattle.running_spec.proofs.Promises.{saved-read-back}
use Rattle.promises.proofs.running_states.saved_reads_back.Goals as goal

pub returns : goal.returns
returns c = saved-read-back

use Rattle.running_spec.proofs.Promises.{opens-exactly}
use Rattle.promises.proofs.running_states.opens_exactly.Goals as goal

pub returns : goal.returns
returns c = opens-exactly

use Rattle.running_spec.proofs.Promises.{state-begun}
use Rattle.promises.proofs.running_states.state_begun.Goals as goal

pub returns : goal.returns
returns c = state-begun

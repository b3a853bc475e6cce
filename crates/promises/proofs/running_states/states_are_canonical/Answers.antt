use Rattle.running_spec.proofs.Promises.{state-canonical}
use Rattle.promises.proofs.running_states.states_are_canonical.Goals as goal

pub returns : goal.returns
returns c = state-canonical

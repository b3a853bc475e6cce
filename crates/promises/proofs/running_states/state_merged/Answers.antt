use Rattle.running_spec.proofs.Promises.{state-merged}
use Rattle.promises.proofs.running_states.state_merged.Goals as goal

pub returns : goal.returns
returns c = state-merged

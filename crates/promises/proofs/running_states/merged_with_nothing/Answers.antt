use Rattle.running_spec.proofs.Promises.{merged-unit}
use Rattle.promises.proofs.running_states.merged_with_nothing.Goals as goal

pub returns : goal.returns
returns c = merged-unit

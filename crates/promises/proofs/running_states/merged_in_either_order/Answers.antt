use Rattle.running_spec.proofs.Promises.{merged-commutes}
use Rattle.promises.proofs.running_states.merged_in_either_order.Goals as goal

pub returns : goal.returns
returns c = merged-commutes

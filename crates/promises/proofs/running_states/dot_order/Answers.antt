use Rattle.running_spec.proofs.Promises.{dot-state-order}
use Rattle.promises.proofs.running_states.dot_order.Goals as goal

pub returns : goal.returns
returns c = dot-state-order

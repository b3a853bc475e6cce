use Rattle.running_spec.proofs.Promises.{sum-state-order}
use Rattle.promises.proofs.running_states.sum_order.Goals as goal

pub returns : goal.returns
returns c = sum-state-order

use Rattle.running_spec.proofs.Promises.{extended-state-order}
use Rattle.promises.proofs.running_states.extended_order.Goals as goal

pub returns : goal.returns
returns c = extended-state-order

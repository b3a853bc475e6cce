use Rattle.running_spec.proofs.Promises.{taken-order}
use Rattle.promises.proofs.taking_back.in_either_order.Goals as goal

pub returns : goal.returns
returns c = taken-order

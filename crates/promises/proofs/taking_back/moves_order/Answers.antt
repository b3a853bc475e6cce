use Rattle.running_spec.proofs.Promises.{moves-order}
use Rattle.promises.proofs.taking_back.moves_order.Goals as goal

pub returns : goal.returns
returns c = moves-order

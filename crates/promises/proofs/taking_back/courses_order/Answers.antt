use Rattle.running_spec.proofs.Promises.{courses-order}
use Rattle.promises.proofs.taking_back.courses_order.Goals as goal

pub returns : goal.returns
returns c = courses-order

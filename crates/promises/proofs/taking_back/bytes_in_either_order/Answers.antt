use Rattle.running_spec.proofs.Promises.{taken-bytes-order}
use Rattle.promises.proofs.taking_back.bytes_in_either_order.Goals as goal

pub returns : goal.returns
returns c = taken-bytes-order

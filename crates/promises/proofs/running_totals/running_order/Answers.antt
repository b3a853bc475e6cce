use Rattle.running_spec.proofs.Promises.{running-order}
use Rattle.promises.proofs.running_totals.running_order.Goals as goal

pub returns : goal.returns
returns c = running-order

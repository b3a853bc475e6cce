use Rattle.totals_spec.proofs.order.Order.{dot-order}
use Rattle.promises.proofs.order.dot_order.Goals as goal

pub returns : goal.returns
returns c = dot-order

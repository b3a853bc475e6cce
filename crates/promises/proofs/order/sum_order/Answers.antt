use Rattle.totals_spec.proofs.order.Order.{sum-order}
use Rattle.promises.proofs.order.sum_order.Goals as goal

pub returns : goal.returns
returns c = sum-order

use Rattle.totals_spec.proofs.order.Order.{sum-entry-order}
use Rattle.promises.proofs.order.sum_entry_order.Goals as goal

pub returns : goal.returns
returns c = sum-entry-order

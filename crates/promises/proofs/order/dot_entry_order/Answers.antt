use Rattle.totals_spec.proofs.order.Order.{dot-entry-order}
use Rattle.promises.proofs.order.dot_entry_order.Goals as goal

pub returns : goal.returns
returns c = dot-entry-order

use Rattle.figures_spec.proofs.ranges.Order.{range-order}
use Rattle.promises.proofs.ranges.order.Goals as goal

pub returns : goal.returns
returns c = range-order

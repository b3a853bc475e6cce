use Rattle.totals_spec.proofs.pence.PenceOfLists.{pence-order}
use Rattle.promises.proofs.pence.order.Goals as goal

pub returns : goal.returns
returns c = pence-order

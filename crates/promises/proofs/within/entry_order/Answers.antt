use Rattle.targets_spec.proofs.within.Entry.{within-entry-order}
use Rattle.promises.proofs.within.entry_order.Goals as goal

pub returns : goal.returns
returns c = within-entry-order

use Rattle.targets_spec.proofs.several.Entry.{target-entry-order}
use Rattle.promises.proofs.targets.entry_order.Goals as goal

pub returns : goal.returns
returns c = target-entry-order

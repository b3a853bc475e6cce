use Rattle.targets_spec.proofs.several.Records.{target-order}
use Rattle.promises.proofs.targets.order.Goals as goal

pub returns : goal.returns
returns c = target-order

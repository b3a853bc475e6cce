use Rattle.targets_spec.proofs.several.Records.{target-limit}
use Rattle.promises.proofs.targets.limit.Goals as goal

pub returns : goal.returns
returns c = target-limit

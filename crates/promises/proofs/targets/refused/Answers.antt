use Rattle.targets_spec.proofs.several.Records.{target-refused}
use Rattle.promises.proofs.targets.refused.Goals as goal

pub returns : goal.returns
returns c = target-refused

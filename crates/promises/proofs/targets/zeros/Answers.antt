use Rattle.targets_spec.proofs.several.RoundedAsTheSum.{target-zeros}
use Rattle.promises.proofs.targets.zeros.Goals as goal

pub returns : goal.returns
returns c = target-zeros

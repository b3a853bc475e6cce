use Rattle.targets_spec.proofs.several.RoundedAsTheSum.{target-side}
use Rattle.promises.proofs.targets.side.Goals as goal

pub returns : goal.returns
returns c = target-side

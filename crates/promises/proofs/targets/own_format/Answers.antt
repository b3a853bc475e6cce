use Rattle.targets_spec.proofs.several.RoundedAsTheSum.{target-own}
use Rattle.promises.proofs.targets.own_format.Goals as goal

pub returns : goal.returns
returns c = target-own

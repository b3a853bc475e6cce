use Rattle.targets_spec.proofs.several.RoundedAsTheSum.{target-exact}
use Rattle.promises.proofs.targets.exact.Goals as goal

pub returns : goal.returns
returns c = target-exact

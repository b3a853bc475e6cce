use Rattle.targets_spec.proofs.several.RoundedAsTheSum.{target-passes}
use Rattle.promises.proofs.targets.one_run.Goals as goal

pub returns : goal.returns
returns c = target-passes

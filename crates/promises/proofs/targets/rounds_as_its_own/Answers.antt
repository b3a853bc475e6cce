use Rattle.totals_spec.proofs.rounding.IntoFormat.{target-means}
use Rattle.promises.proofs.targets.rounds_as_its_own.Goals as goal

pub returns : goal.returns
returns c = target-means

use Rattle.totals_spec.proofs.rounding.IntoFormat.{target-rounds}
use Rattle.promises.proofs.targets.rounds_once.Goals as goal

pub returns : goal.returns
returns c = target-rounds

use Rattle.promises.proofs.roundings.RoundedTargets.{target-cancelled}
use Rattle.promises.proofs.target_rounding.target_cancelled.Goals as goal

pub returns : goal.returns
returns c = target-cancelled

use Rattle.promises.proofs.roundings.RoundedTargets.{target-rounded-once}
use Rattle.promises.proofs.target_rounding.target_rounded_once.Goals as goal

pub returns : goal.returns
returns c = target-rounded-once

use Rattle.promises.proofs.roundings.RoundedTargets.{sum-within-once}
use Rattle.promises.proofs.target_rounding.sum_within_once.Goals as goal

pub returns : goal.returns
returns c = sum-within-once

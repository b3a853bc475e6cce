use Rattle.promises.proofs.roundings.RoundedTargets.{dot-within-once}
use Rattle.promises.proofs.target_rounding.dot_within_once.Goals as goal

pub returns : goal.returns
returns c = dot-within-once

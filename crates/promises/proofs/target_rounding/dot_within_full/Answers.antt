use Rattle.promises.proofs.roundings.RoundedTargets.{dot-within-full}
use Rattle.promises.proofs.target_rounding.dot_within_full.Goals as goal

pub returns : goal.returns
returns c = dot-within-full

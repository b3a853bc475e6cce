use Rattle.promises.proofs.roundings.RoundedTargets.{sum-within-full}
use Rattle.promises.proofs.target_rounding.sum_within_full.Goals as goal

pub returns : goal.returns
returns c = sum-within-full

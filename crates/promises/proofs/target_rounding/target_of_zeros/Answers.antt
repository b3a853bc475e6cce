use Rattle.promises.proofs.roundings.RoundedTargets.{target-of-zeros}
use Rattle.promises.proofs.target_rounding.target_of_zeros.Goals as goal

pub returns : goal.returns
returns c = target-of-zeros

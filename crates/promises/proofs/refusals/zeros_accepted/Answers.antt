use Rattle.totals_spec.proofs.refusals.ManyZeros.{zeros-accepted}
use Rattle.promises.proofs.refusals.zeros_accepted.Goals as goal

pub returns : goal.returns
returns c = zeros-accepted

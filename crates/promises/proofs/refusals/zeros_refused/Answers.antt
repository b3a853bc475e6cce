use Rattle.totals_spec.proofs.refusals.ManyZeros.{zeros-refused}
use Rattle.promises.proofs.refusals.zeros_refused.Goals as goal

pub returns : goal.returns
returns c = zeros-refused

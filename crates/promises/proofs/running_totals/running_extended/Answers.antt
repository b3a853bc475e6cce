use Rattle.running_spec.proofs.Promises.{running-extended}
use Rattle.promises.proofs.running_totals.running_extended.Goals as goal

pub returns : goal.returns
returns c = running-extended

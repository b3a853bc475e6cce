use Rattle.running_spec.proofs.Promises.{running-refused}
use Rattle.promises.proofs.running_totals.refused.Goals as goal

pub returns : goal.returns
returns c = running-refused

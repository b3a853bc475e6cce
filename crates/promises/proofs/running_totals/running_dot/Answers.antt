use Rattle.running_spec.proofs.Promises.{running-dot}
use Rattle.promises.proofs.running_totals.running_dot.Goals as goal

pub returns : goal.returns
returns c = running-dot

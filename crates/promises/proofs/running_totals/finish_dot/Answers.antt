use Rattle.running_spec.proofs.Promises.{finish-dot}
use Rattle.promises.proofs.running_totals.finish_dot.Goals as goal

pub returns : goal.returns
returns c = finish-dot

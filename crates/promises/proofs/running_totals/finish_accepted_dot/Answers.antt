use Rattle.running_spec.proofs.Promises.{finish-plain-dot}
use Rattle.promises.proofs.running_totals.finish_accepted_dot.Goals as goal

pub returns : goal.returns
returns c = finish-plain-dot

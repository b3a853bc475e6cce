use Rattle.running_spec.proofs.Promises.{finish-target}
use Rattle.promises.proofs.running_totals.finish_target.Goals as goal

pub returns : goal.returns
returns c = finish-target

use Rattle.running_spec.proofs.Promises.{finish-pence}
use Rattle.promises.proofs.running_totals.finish_pence.Goals as goal

pub returns : goal.returns
returns c = finish-pence

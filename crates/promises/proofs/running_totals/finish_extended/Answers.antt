use Rattle.running_spec.proofs.Promises.{finish-extended}
use Rattle.promises.proofs.running_totals.finish_extended.Goals as goal

pub returns : goal.returns
returns c = finish-extended

use Rattle.running_spec.proofs.Promises.{finish-plain-extended}
use Rattle.promises.proofs.running_totals.finish_accepted_extended.Goals as goal

pub returns : goal.returns
returns c = finish-plain-extended

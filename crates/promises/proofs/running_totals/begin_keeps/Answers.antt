use Rattle.running_spec.proofs.Promises.{begin-keeps}
use Rattle.promises.proofs.running_totals.begin_keeps.Goals as goal

pub returns : goal.returns
returns c = begin-keeps

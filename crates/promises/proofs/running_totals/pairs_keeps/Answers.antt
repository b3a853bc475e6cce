use Rattle.running_spec.proofs.Promises.{pairs-keeps}
use Rattle.promises.proofs.running_totals.pairs_keeps.Goals as goal

pub returns : goal.returns
returns c = pairs-keeps

use Rattle.running_spec.proofs.Promises.{merge-keeps}
use Rattle.promises.proofs.running_totals.merge_keeps.Goals as goal

pub returns : goal.returns
returns c = merge-keeps

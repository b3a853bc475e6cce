use Rattle.running_spec.proofs.Promises.{taken-merged}
use Rattle.promises.proofs.taking_back.taken_then_merged.Goals as goal

pub returns : goal.returns
returns c = taken-merged

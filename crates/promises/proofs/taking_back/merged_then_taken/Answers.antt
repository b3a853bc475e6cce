use Rattle.running_spec.proofs.Promises.{merged-taken}
use Rattle.promises.proofs.taking_back.merged_then_taken.Goals as goal

pub returns : goal.returns
returns c = merged-taken

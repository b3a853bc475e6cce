use Rattle.running_spec.proofs.Promises.{state-within}
use Rattle.promises.proofs.taking_back.part_within.Goals as goal

pub returns : goal.returns
returns c = state-within

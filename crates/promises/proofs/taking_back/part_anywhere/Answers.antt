use Rattle.running_spec.proofs.Promises.{state-part}
use Rattle.promises.proofs.taking_back.part_anywhere.Goals as goal

pub returns : goal.returns
returns c = state-part

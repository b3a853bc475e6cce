use Rattle.running_spec.proofs.Promises.{state-taken-anywhere}
use Rattle.promises.proofs.taking_back.taken_from_anywhere.Goals as goal

pub returns : goal.returns
returns c = state-taken-anywhere

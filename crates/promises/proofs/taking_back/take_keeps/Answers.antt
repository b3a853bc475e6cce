use Rattle.running_spec.proofs.Promises.{take-keeps}
use Rattle.promises.proofs.taking_back.take_keeps.Goals as goal

pub returns : goal.returns
returns c = take-keeps

use Rattle.running_spec.proofs.Promises.{taken-together}
use Rattle.promises.proofs.taking_back.together.Goals as goal

pub returns : goal.returns
returns c = taken-together

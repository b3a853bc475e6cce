use Rattle.running_spec.proofs.Promises.{taken-opens}
use Rattle.promises.proofs.taking_back.leaves_what_opens.Goals as goal

pub returns : goal.returns
returns c = taken-opens

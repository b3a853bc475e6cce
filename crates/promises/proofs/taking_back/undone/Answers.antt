use Rattle.running_spec.proofs.Promises.{undone}
use Rattle.promises.proofs.taking_back.undone.Goals as goal

pub returns : goal.returns
returns c = undone

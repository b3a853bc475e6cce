use Rattle.running_spec.proofs.Promises.{replaced}
use Rattle.promises.proofs.taking_back.replaced.Goals as goal

pub returns : goal.returns
returns c = replaced

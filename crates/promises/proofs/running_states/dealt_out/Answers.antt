use Rattle.running_spec.proofs.Promises.{dealt-out}
use Rattle.promises.proofs.running_states.dealt_out.Goals as goal

pub returns : goal.returns
returns c = dealt-out

use Rattle.running_spec.proofs.Promises.{taken-refused}
use Rattle.promises.proofs.taking_back.refused.Goals as goal

pub returns : goal.returns
returns c = taken-refused

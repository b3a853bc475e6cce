use Rattle.running_spec.proofs.Promises.{taken-refused-exactly}
use Rattle.promises.proofs.taking_back.refused_exactly.Goals as goal

pub returns : goal.returns
returns c = taken-refused-exactly

use Rattle.running_spec.proofs.Promises.{running-refused-exactly}
use Rattle.promises.proofs.running_totals.refused_exactly.Goals as goal

pub returns : goal.returns
returns c = running-refused-exactly

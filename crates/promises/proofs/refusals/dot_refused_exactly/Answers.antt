use Rattle.totals_spec.proofs.refusals.Exactly.{dot-refused-exactly}
use Rattle.promises.proofs.refusals.dot_refused_exactly.Goals as goal

pub returns : goal.returns
returns c = dot-refused-exactly

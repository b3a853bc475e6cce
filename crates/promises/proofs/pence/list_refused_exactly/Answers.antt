use Rattle.totals_spec.proofs.pence.RefusedExactly.{sum-pence-refused-exactly}
use Rattle.promises.proofs.pence.list_refused_exactly.Goals as goal

pub returns : goal.returns
returns c = sum-pence-refused-exactly

use Rattle.totals_spec.proofs.pence.RefusedExactly.{pence-refused-exactly}
use Rattle.promises.proofs.pence.encoding_refused_exactly.Goals as goal

pub returns : goal.returns
returns c = pence-refused-exactly

use Rattle.totals_spec.proofs.pence.RefusedExactly.{pence-entry-refused-exactly}
use Rattle.promises.proofs.pence.entry_refused_exactly.Goals as goal

pub returns : goal.returns
returns c = pence-entry-refused-exactly

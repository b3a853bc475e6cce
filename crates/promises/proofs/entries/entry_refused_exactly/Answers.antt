use Rattle.totals_spec.proofs.entries.RefusedExactly.{entry-refused-exactly}
use Rattle.promises.proofs.entries.entry_refused_exactly.Goals as goal

pub returns : goal.returns
returns c = entry-refused-exactly

use Rattle.figures_spec.proofs.tables.RefusedExactly.{table-entry-refused-exactly}
use Rattle.promises.proofs.tables.entry_refused_exactly.Goals as goal

pub returns : goal.returns
returns c = table-entry-refused-exactly

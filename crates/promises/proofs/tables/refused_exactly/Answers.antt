use Rattle.figures_spec.proofs.tables.RefusedExactly.{table-refused-exactly}
use Rattle.promises.proofs.tables.refused_exactly.Goals as goal

pub returns : goal.returns
returns c = table-refused-exactly

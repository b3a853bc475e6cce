use Rattle.figures_spec.proofs.tables.ReadBack.{table-entry-read-back}
use Rattle.promises.proofs.tables.entry_read_back.Goals as goal

pub returns : goal.returns
returns c = table-entry-read-back

use Rattle.figures_spec.proofs.tables.Tables.{table-entry-refused}
use Rattle.promises.proofs.tables.entry_refused.Goals as goal

pub returns : goal.returns
returns c = table-entry-refused

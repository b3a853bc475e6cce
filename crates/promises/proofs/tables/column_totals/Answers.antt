use Rattle.figures_spec.proofs.tables.Tables.{table-column}
use Rattle.promises.proofs.tables.column_totals.Goals as goal

pub returns : goal.returns
returns c = table-column

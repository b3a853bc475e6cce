use Rattle.figures_spec.proofs.tables.Tables.{table-row}
use Rattle.promises.proofs.tables.row_totals.Goals as goal

pub returns : goal.returns
returns c = table-row

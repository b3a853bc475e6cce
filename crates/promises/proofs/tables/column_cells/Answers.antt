use Rattle.figures_spec.proofs.tables.Tables.{column-cells}
use Rattle.promises.proofs.tables.column_cells.Goals as goal

pub returns : goal.returns
returns c = column-cells

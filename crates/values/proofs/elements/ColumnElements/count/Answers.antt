-- A column has a cell of each row.
use Rattle.std.proofs.Common.{sym}
use Rattle.totals_spec.proofs.lists.Columns.{column-length}
use Rattle.values.proofs.Columns.{cells-fit}
use Rattle.values.proofs.elements.ColumnElements.count.Goals as goal

pub returns-clause-value : goal.returns-clause-value
returns-clause-value c = let s = c.args.self.now in sym (column-length s.count s.step s.cells.now s.first)

pub returns-clause-fit : goal.returns-clause-fit
returns-clause-fit c = let s = c.args.self.now in cells-fit s.count s.step s.first s.cells.now c.words_in-cells.ensures.fit

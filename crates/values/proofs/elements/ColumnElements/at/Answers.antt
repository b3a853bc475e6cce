-- A cell stands in its row, at the index of its column.
use Rattle.std.proofs.Common.{arith}
use Rattle.values.proofs.Columns.{cell-there, cell-is}
use Rattle.values.proofs.elements.ColumnElements.at.Goals as goal

pub overflow_mul-result : goal.overflow_mul-result
overflow_mul-result c =
    let s = c.args.self.now in
    let h = cell-there s.count s.step s.first s.cells.now c.args.i c.requires s.inside in record { fits = omega (arith, h, c.well_formed) }

pub overflow_add-result : goal.overflow_add-result
overflow_add-result c =
    let s = c.args.self.now in
    let h = cell-there s.count s.step s.first s.cells.now c.args.i c.requires s.inside in record { fits = omega (arith, h, c.well_formed) }

pub offset_bounds-self-self : goal.offset_bounds-self-self
offset_bounds-self-self c =
    let s = c.args.self.now in
    let h = cell-there s.count s.step s.first s.cells.now c.args.i c.requires s.inside in record { fits = omega (arith, h, c.well_formed) }

pub bounds-self-self : goal.bounds-self-self
bounds-self-self c = let s = c.args.self.now in cell-there s.count s.step s.first s.cells.now c.args.i c.requires s.inside

pub returns : goal.returns
returns c = let s = c.args.self.now in cell-is s.count s.step s.first s.cells.now c.args.i c.requires

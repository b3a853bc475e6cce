-- A turn fills the total of one more column in, which has no more cells than the table.
use Rattle.std.proofs.Common.{◌≤◌, ◌*◌, ℕ, set, map, sym, ap, ◌∙◌, add-one, arith}
use Rattle.std.proofs.Math.Nat.{mul-le-mul_left}
use Rattle.totals_spec.specs.sums.Totals.{Answer}
use Rattle.figures_spec.specs.tables.Table.{columns_from, plain_total}
use Rattle.totals_spec.specs.entries.Words.{filled}
use Rattle.figures_spec.proofs.tables.Tables.{columns-filled}
use Rattle.totals_spec.proofs.lists.Columns.{column-length}
use Rattle.format.specs.Layouts.{layout_of}
use Rattle.format.specs.Environments.{env_of}
use Rattle.figures.proofs.Columns.{fewer-pass}
use Rattle.figures.proofs.table.fill_columns.Goals as goal

pub sum-requires : goal.sum-requires
sum-requires c =
    let a = c.args in
    let some : a.rows * 1 ≤ a.rows * a.columns = mul-le-mul_left a.rows (omega (arith, c.loop-j-test.true)) in
    rw (column-length a.rows a.columns a.cells.now c.loop-j.j)
    (fewer-pass (layout_of a.layout) (env_of a.env) 0 a.rows _ (omega (arith, some, c.requires.0)) c.requires.2)

pub loop-j-preserved : goal.loop-j-preserved
loop-j-preserved c =
    let a = c.args in
    let l = c.loop-j in
    let g = plain_total (layout_of a.layout) (env_of a.env) in
    let old = a.totals.now in
    ap (λ (x : ℕ). set l.totals l.j x) (c.result_of.ensures ∙ ap (λ (r : Answer). r.result) c.sum.ensures.told)
    ∙ columns-filled g a.columns a.cells.now l.totals old l.j (omega arith) a.rows l.invariant
    ∙ ap (λ (k : ℕ). filled (map g (columns_from a.rows a.columns a.cells.now 0 k)) old) (sym (add-one l.j))

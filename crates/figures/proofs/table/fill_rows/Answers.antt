-- A turn fills the total of one more row in.
use Rattle.std.proofs.Common.{◌≡◌, ◌≤◌, ◌+◌, ◌-◌, ◌*◌, ℕ, take, drop, set, map, sym, ap, ◌∙◌, add-one, arith}
use Rattle.totals_spec.specs.sums.Totals.{Answer}
use Rattle.figures_spec.specs.tables.Table.{rows_of, plain_total}
use Rattle.totals_spec.specs.entries.Words.{filled}
use Rattle.figures_spec.proofs.tables.Tables.{rows-filled}
use Rattle.format.specs.Layouts.{layout_of}
use Rattle.format.specs.Environments.{env_of}
use Rattle.std.proofs.Math.Nat.{mul-le-mul_right}
use Rattle.figures.proofs.Columns.{fewer-pass}
use Rattle.figures.proofs.table.fill_rows.Goals as goal

pub loop-i-preserved : goal.loop-i-preserved
loop-i-preserved c =
    let a = c.args in
    let l = c.loop-i in
    let g = plain_total (layout_of a.layout) (env_of a.env) in
    let row = drop (l.i * a.columns) a.cells.now in
    let old = a.totals.now in
    let wide : l.i * a.columns + a.columns - l.i * a.columns ≡ a.columns = omega arith in
    ap (λ (x : ℕ). set l.totals l.i x) (c.result_of.ensures ∙ ap (λ (r : Answer). r.result) c.sum.ensures.told ∙ ap (λ (n : ℕ). g (take n row)) wide)
    ∙ rows-filled g a.columns a.cells.now l.totals old l.i (omega arith) l.invariant
    ∙ ap (λ (k : ℕ). filled (map g (rows_of k a.columns a.cells.now)) old) (sym (add-one l.i))

pub sum-requires : goal.sum-requires
sum-requires c =
    let a = c.args in
    let wide : c.loop-i.i * a.columns + a.columns - c.loop-i.i * a.columns ≡ a.columns = omega arith in
    let some : 1 * a.columns ≤ a.rows * a.columns = mul-le-mul_right a.columns (omega (arith, c.loop-i-test.true)) in
    fewer-pass (layout_of a.layout) (env_of a.env) 0 _ _ (omega (arith, some, c.requires.0)) c.requires.2

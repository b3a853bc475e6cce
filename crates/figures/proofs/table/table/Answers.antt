-- Test by test, what each that is passed has shown, and then the totals.
use Rattle.std.proofs.Common.{◌≡◌, ◌≢◌, ◌*◌, ℕ, List, length, refl, sym, ap, ◌∙◌, inl, inr, eqb-true}
use Rattle.std.proofs.lemmas.Result.{err_from_is_err_and}
use borrow.Author.Tests.{not-true, not-false, eqb-false}
use Rattle.totals_spec.specs.sums.Totals as totals
use Rattle.figures_spec.specs.tables.Table.{Tabled}
use Rattle.totals_spec.proofs.refusals.RefusedRecords.{sum-refusal}
use Rattle.figures_spec.proofs.tables.Tables.{Roomy, leaves, sound, table-stopped, shape-refused, room-refused, table-strayed, table-summed}
use Rattle.format.specs.Formats.{format_of}
use Rattle.format.specs.Settings.{settings_of}
use Rattle.totals.specs.Refusal.{sum_numbers}
use Rattle.figures.specs.Tables.{Tables}
use Rattle.totals.proofs.Answers.{sum-place}
use Rattle.totals.proofs.Refusals.{number-some}
use Rattle.figures.proofs.table.table.Goals as goal
use Rattle.figures.proofs.table.table.Goals.{then-row_totals-rows-via-then-row_totals-rows}
use Rattle.figures.proofs.table.table.Goals.{then-row_totals-rows-via-else-row_totals-rows+then-column_totals-columns}

tables : {t : Tabled} {g : totals.Answer} {r k : List ℕ} (a : totals.Answer) → t ≡ leaves g r k → a ≡ g → Tables t a r k
tables a e q = record {
  grand-is = q ∙ sym (ap (λ (t : Tabled). t.grand) e);
  rows_are = sym (ap (λ (t : Tabled). t.row_totals) e);
  columns-are = sym (ap (λ (t : Tabled). t.column_totals) e);
}

pub returns-in_err-asked : goal.returns-in_err-asked
unfolding sum_numbers
returns-in_err-asked c =
    let p = err_from_is_err_and c.from_residual.result c.from_residual.ensures.1 in
    let a = c.args in
    let e = c.in_err-asked.ensures in
    rw (p.1, p.2, sum-place (format_of a.format) (settings_of a.settings) 0 (length a.cells.now) _ e)
    (tables _ (table-stopped (format_of a.format) (settings_of a.settings) a.cells.now a.rows a.columns a.row_totals.now a.column_totals.now _ e
    (number-some _)) refl)

pub returns-in_err-refuse_if : goal.returns-in_err-refuse_if
unfolding sum_numbers
returns-in_err-refuse_if c =
    let p = err_from_is_err_and c.from_residual-in_err-refuse_if.result c.from_residual-in_err-refuse_if.ensures.1 in
    let a = c.args in
    let passed = sound (format_of a.format) (settings_of a.settings) a.cells.now c.in_ok-asked.ensures.3 in
    let (bad, is) = c.in_err-refuse_if.ensures {u = tt} in
    let other : a.rows * a.columns ≢ length a.cells.now = eqb-false _ _ (not-true _ (sym c.misshapen.ensures ∙ bad)) in
    rw (p.1, p.2, is)
    (tables _ (shape-refused (format_of a.format) (settings_of a.settings) a.cells.now a.rows a.columns a.row_totals.now a.column_totals.now passed other) refl)

pub returns-then-row_totals-rows : goal.returns-then-row_totals-rows
unfolding sum_numbers
returns-then-row_totals-rows c =
    let a = c.args in
    let passed = sound (format_of a.format) (settings_of a.settings) a.cells.now c.in_ok-asked.ensures.3 in
    let good = c.in_ok-refuse_if.ensures {u = tt} in
    let shape = eqb-true (a.rows * a.columns) (length a.cells.now) (not-false _ (sym c.misshapen.ensures ∙ good)) in
    let refused = room-refused (format_of a.format) (settings_of a.settings) a.cells.now a.rows a.columns a.row_totals.now a.column_totals.now passed shape in
    elim c.then-row_totals-rows.branch [
      | then-row_totals-rows-via-then-row_totals-rows w ↦ tables _ (refused (inl w.if-row_totals-rows.true)) refl
      | then-row_totals-rows-via-else-row_totals-rows+then-column_totals-columns w ↦ tables _ (refused (inr w.if-column_totals-columns.true)) refl
    ]

pub returns-in_err-grand : goal.returns-in_err-grand
unfolding sum_numbers
returns-in_err-grand c =
    let p = err_from_is_err_and c.from_residual-in_err-grand.result c.from_residual-in_err-grand.ensures.1 in
    let a = c.args in
    let f = format_of a.format in
    let s = settings_of a.settings in
    let is = c.in_ok-asked.ensures in
    let passed = sound f s a.cells.now is.3 in
    let good = c.in_ok-refuse_if.ensures {u = tt} in
    let shape = eqb-true (a.rows * a.columns) (length a.cells.now) (not-false _ (sym c.misshapen.ensures ∙ good)) in
    let roomy : Roomy a.rows a.columns a.cells.now a.row_totals.now a.column_totals.now =
    record { shape = shape; for-rows = c.if-row_totals-rows.false; for-columns = c.if-column_totals-columns.false } in
    let grand = rw (is.0, is.1) at c.in_err-grand.ensures.told in
    let number = ap (λ (t : totals.Answer). t.refusal) grand ∙ sum-refusal f s 0 a.cells.now in
    rw (p.1, p.2)
    (tables _
    (table-strayed f s a.cells.now a.rows a.columns a.row_totals.now a.column_totals.now passed roomy (λ q. number-some _ (number ∙ q)))
    grand)

pub returns : goal.returns
unfolding sum_numbers
returns c =
    let a = c.args in
    let f = format_of a.format in
    let s = settings_of a.settings in
    let is = c.in_ok-asked.ensures in
    let passed = sound f s a.cells.now is.3 in
    let good = c.in_ok-refuse_if.ensures {u = tt} in
    let shape = eqb-true (a.rows * a.columns) (length a.cells.now) (not-false _ (sym c.misshapen.ensures ∙ good)) in
    let roomy : Roomy a.rows a.columns a.cells.now a.row_totals.now a.column_totals.now =
    record { shape = shape; for-rows = c.if-row_totals-rows.false; for-columns = c.if-column_totals-columns.false } in
    let grand = rw (is.0, is.1) at c.in_ok-grand.ensures.told in
    let none = rw (is.0, is.1) at (c.in_ok-grand.ensures.accepted c.in_ok-grand.grand refl) in
    let all = table-summed f s a.cells.now a.rows a.columns a.row_totals.now a.column_totals.now passed roomy none in
    record {
      grand-is = grand ∙ sym (ap (λ (x : Tabled). x.grand) all);
      rows_are = rw (is.0, is.1) at c.fill_rows.ensures ∙ sym (ap (λ (x : Tabled). x.row_totals) all);
      columns-are = rw (is.0, is.1) at c.fill_columns.ensures ∙ sym (ap (λ (x : Tabled). x.column_totals) all);
    }

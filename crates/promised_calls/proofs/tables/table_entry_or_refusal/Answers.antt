use Rattle.std.proofs.Common.{◌∙◌, ℤ, subst}
use Rattle.std.proofs.Math.Facts.{to_z-of_z}
use Rattle.format.specs.Settings.{settings_of}
use Rattle.figures_spec.specs.tables.Entry.{table_entry}
use Rattle.figures_spec.proofs.tables.RefusedExactly.{table-entry-refused-exactly}
use Rattle.figures_spec.proofs.tables.Tables.{table-entry-refused}
use Rattle.figures.specs.Tables.{EntersTable}
use Rattle.promised_calls.proofs.tables.table_entry_or_refusal.Goals as goal

pub returns-clause-exactly : goal.returns-clause-exactly
returns-clause-exactly c =
    let is = subst (λ (b : ℤ). EntersTable (table_entry c.args.kind c.args.exponent_bits c.args.width c.args.bias_named b (settings_of c.args.c) c.args.rows c.args.columns c.args.cells.now
    c.args.row_totals.now c.args.column_totals.now c.args.answer.now) c.enter_table.result c.enter_table.new.row_totals
    c.enter_table.new.column_totals c.enter_table.new.answer) (to_z-of_z c.ranges.bias) c.enter_table.ensures in
    λ n. rw is.code_is (table-entry-refused-exactly c.args.kind c.args.exponent_bits c.args.width c.args.bias_named c.args.bias (settings_of c.args.c) c.args.rows c.args.columns
    c.args.cells.now c.args.row_totals.now c.args.column_totals.now c.args.answer.now n)

pub returns-clause-rows_kept : goal.returns-clause-rows_kept
returns-clause-rows_kept c =
    let is = subst (λ (b : ℤ). EntersTable (table_entry c.args.kind c.args.exponent_bits c.args.width c.args.bias_named b (settings_of c.args.c) c.args.rows c.args.columns c.args.cells.now
    c.args.row_totals.now c.args.column_totals.now c.args.answer.now) c.enter_table.result c.enter_table.new.row_totals
    c.enter_table.new.column_totals c.enter_table.new.answer) (to_z-of_z c.ranges.bias) c.enter_table.ensures in
    λ h. is.rows_are ∙ (table-entry-refused c.args.kind c.args.exponent_bits c.args.width c.args.bias_named c.args.bias (settings_of c.args.c) c.args.rows c.args.columns
    c.args.cells.now c.args.row_totals.now c.args.column_totals.now c.args.answer.now (λ e. h (is.code_is ∙ e))).0

pub returns-clause-columns_kept : goal.returns-clause-columns_kept
returns-clause-columns_kept c =
    let is = subst (λ (b : ℤ). EntersTable (table_entry c.args.kind c.args.exponent_bits c.args.width c.args.bias_named b (settings_of c.args.c) c.args.rows c.args.columns c.args.cells.now
    c.args.row_totals.now c.args.column_totals.now c.args.answer.now) c.enter_table.result c.enter_table.new.row_totals
    c.enter_table.new.column_totals c.enter_table.new.answer) (to_z-of_z c.ranges.bias) c.enter_table.ensures in
    λ h. is.columns-are ∙ (table-entry-refused c.args.kind c.args.exponent_bits c.args.width c.args.bias_named c.args.bias (settings_of c.args.c) c.args.rows c.args.columns
    c.args.cells.now c.args.row_totals.now c.args.column_totals.now c.args.answer.now (λ e. h (is.code_is ∙ e))).1

pub returns-clause-answer_kept : goal.returns-clause-answer_kept
returns-clause-answer_kept c =
    let is = subst (λ (b : ℤ). EntersTable (table_entry c.args.kind c.args.exponent_bits c.args.width c.args.bias_named b (settings_of c.args.c) c.args.rows c.args.columns c.args.cells.now
    c.args.row_totals.now c.args.column_totals.now c.args.answer.now) c.enter_table.result c.enter_table.new.row_totals
    c.enter_table.new.column_totals c.enter_table.new.answer) (to_z-of_z c.ranges.bias) c.enter_table.ensures in
    λ h. is.buffer-is ∙ (table-entry-refused c.args.kind c.args.exponent_bits c.args.width c.args.bias_named c.args.bias (settings_of c.args.c) c.args.rows c.args.columns
    c.args.cells.now c.args.row_totals.now c.args.column_totals.now c.args.answer.now (λ e. h (is.code_is ∙ e))).2

use Rattle.format.specs.Formats.{format_of}
use Rattle.format.specs.Settings.{settings_of}
use Rattle.promised_calls.proofs.Tabled.{exactly, nothing-else, placed, rows-kept, columns-kept}
use Rattle.totals.specs.Asked.{answer_in}
use Rattle.promised_calls.proofs.tables.table_or_refusal.Goals as goal

pub returns-clause-exactly : goal.returns-clause-exactly
returns-clause-exactly c =
    exactly (format_of c.args.f) (settings_of c.args.c) c.args.rows c.args.columns c.args.cells.now c.args.row_totals.now c.args.column_totals.now
    (answer_in c.table.result) c.table.new.row_totals c.table.new.column_totals c.table.ensures

pub returns-clause-nothing_else : goal.returns-clause-nothing_else
returns-clause-nothing_else c =
    nothing-else (format_of c.args.f) (settings_of c.args.c) c.args.rows c.args.columns c.args.cells.now c.args.row_totals.now c.args.column_totals.now
    (answer_in c.table.result) c.table.new.row_totals c.table.new.column_totals c.table.ensures

pub returns-clause-place : goal.returns-clause-place
returns-clause-place c =
    placed (format_of c.args.f) (settings_of c.args.c) c.args.rows c.args.columns c.args.cells.now c.args.row_totals.now c.args.column_totals.now
    (answer_in c.table.result) c.table.new.row_totals c.table.new.column_totals c.table.ensures

pub returns-clause-rows_kept : goal.returns-clause-rows_kept
returns-clause-rows_kept c =
    rows-kept (format_of c.args.f) (settings_of c.args.c) c.args.rows c.args.columns c.args.cells.now c.args.row_totals.now c.args.column_totals.now
    (answer_in c.table.result) c.table.new.row_totals c.table.new.column_totals c.table.ensures

pub returns-clause-columns_kept : goal.returns-clause-columns_kept
returns-clause-columns_kept c =
    columns-kept (format_of c.args.f) (settings_of c.args.c) c.args.rows c.args.columns c.args.cells.now c.args.row_totals.now c.args.column_totals.now
    (answer_in c.table.result) c.table.new.row_totals c.table.new.column_totals c.table.ensures

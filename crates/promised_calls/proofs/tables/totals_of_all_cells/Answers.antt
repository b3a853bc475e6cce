use Rattle.format.specs.Formats.{format_of}
use Rattle.format.specs.Settings.{settings_of}
use Rattle.promised_calls.proofs.Calls.{same-total}
use Rattle.promised_calls.proofs.Tabled.{alike}
use Rattle.totals.specs.Asked.{answer_in}
use Rattle.promised_calls.proofs.tables.totals_of_all_cells.Goals as goal

pub returns-clause-alike : goal.returns-clause-alike
returns-clause-alike c =
    λ h n r q. same-total c.table-first.result c.table-second.result r
    (alike (format_of c.args.f) (settings_of c.args.c) c.args.rows c.args.columns c.args.cells.now c.args.row_totals.now c.args.column_totals.now
    (answer_in c.table-first.result) c.table-first.new.row_totals c.table-first.new.column_totals c.table-first.ensures
    c.args.moved_rows c.args.moved_columns c.args.moved_cells.now c.args.moved_row_totals.now c.args.moved_column_totals.now
    (answer_in c.table-second.result) c.table-second.new.row_totals c.table-second.new.column_totals c.table-second.ensures
    h r q n)

-- By the two tests, and by the table.
use Rattle.figures_spec.proofs.tables.Tables.{table-small, table-fields}
use Rattle.figures.proofs.TableWritten.{table-short, table-misnamed, table-enters}
use Rattle.totals.proofs.Written.{fits}
use Rattle.figures.proofs.entry.enter_table.Goals as goal

pub returns-then-answer-lt-ANSWER_BYTES : goal.returns-then-answer-lt-ANSWER_BYTES
returns-then-answer-lt-ANSWER_BYTES c =
    rw c.number.ensures (table-short c.args.format _ _ _ c.args.cells.now _ _ _ c.if-answer-lt-ANSWER_BYTES.true)

pub returns-in_default : goal.returns-in_default
returns-in_default c =
    rw c.number-in_default.ensures
    (table-misnamed c.args.format _ _ _ c.args.cells.now _ _ _ c.if-answer-lt-ANSWER_BYTES.false c.in_default.ensures.0)

pub enter-requires : goal.enter-requires
enter-requires c =
    rw c.table-grand.ensures.grand-is
    (fits (table-small _ _ _ _ c.args.cells.now _ _) (table-fields _ _ _ _ c.args.cells.now _ _) _ c.if-answer-lt-ANSWER_BYTES.false)

pub returns : goal.returns
returns c =
    let (named, is) = c.in-Ok.ensures in
    table-enters c.args.format _ _ _ c.args.cells.now _ _ _ c.if-answer-lt-ANSWER_BYTES.false named _ _ _ (rw is at c.table-grand.ensures)
    _ _ c.enter.ensures

-- By the span.
use Rattle.totals.proofs.Tens.{sum-apart}
use Rattle.pages.proofs.PageWritten.{binary64-plain, span-enters, page-short, page-refused}
use Rattle.pages.proofs.entry.enter_page_sum.Goals as goal

pub returns-then-answer-lt-ANSWER_BYTES : goal.returns-then-answer-lt-ANSWER_BYTES
returns-then-answer-lt-ANSWER_BYTES c = rw c.number.ensures (page-short _ _ c.args.page.now _ _ _ c.if-answer-lt-ANSWER_BYTES.true)

pub returns-in-Ok : goal.returns-in-Ok
returns-in-Ok c =
    let plain = binary64-plain _ c.binary64.ensures in
    span-enters _ _ c.args.page.now _ _ _ c.in-Ok.ensures.spanned _ c.binary64.ensures _ c.if-answer-lt-ANSWER_BYTES.false _ _
    (sum-apart _ _ _ _ c.args.summand _ _ plain c.enter_sum.ensures)

pub returns-in-Err : goal.returns-in-Err
returns-in-Err c = rw c.number-in-Err.ensures (page-refused _ _ c.args.page.now _ _ _ c.if-answer-lt-ANSWER_BYTES.false _ c.in-Err.ensures.refused)

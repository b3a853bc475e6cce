-- By the span.
use Rattle.std.proofs.Common.{◌∙◌}
use Rattle.pages.proofs.PageWritten.{span-summed, span-refused}
use Rattle.pages.proofs.span.page_sum.Goals as goal

pub returns-in-Ok : goal.returns-in-Ok
returns-in-Ok c = c.sum_bytes.ensures ∙ span-summed _ _ c.args.page.now _ _ _ c.in-Ok.ensures.spanned _ c.binary64.ensures

pub returns-in-Err : goal.returns-in-Err
returns-in-Err c = span-refused _ _ c.args.page.now _ _ _ c.in-Err.ensures.refused

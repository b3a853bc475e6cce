use Rattle.std.proofs.Common.{◌∙◌}
use Rattle.format.specs.Settings.{settings_of}
use Rattle.pages_spec.proofs.Refused.{page-entry-refused-exactly, page-entry-refused}
use Rattle.promised_calls.proofs.career_pages.span_entry_or_refusal.Goals as goal

pub returns-clause-exactly : goal.returns-clause-exactly
returns-clause-exactly c =
    λ n. rw c.enter_page_sum.ensures.code_is (page-entry-refused-exactly (settings_of c.args.c) c.args.u c.args.page.now c.args.start c.args.end c.args.answer.now n)

pub returns-clause-nothing_written : goal.returns-clause-nothing_written
returns-clause-nothing_written c =
    λ h. c.enter_page_sum.ensures.buffer-is
    ∙ page-entry-refused (settings_of c.args.c) c.args.u c.args.page.now c.args.start c.args.end c.args.answer.now (λ e. h (c.enter_page_sum.ensures.code_is ∙ e))

use Rattle.std.proofs.Common.{ℕ, ◌%◌, ap, ◌∙◌}
use Rattle.pages_spec.proofs.Refused.{page-refused-exactly, page-refused}
use Rattle.promised_calls.proofs.career_pages.page_written_or_refusal.Goals as goal

pub returns-clause-exactly : goal.returns-clause-exactly
returns-clause-exactly c =
    λ n. rw c.enter_page_write.ensures.code_is (page-refused-exactly c.args.values.now c.args.page.now n)

pub returns-clause-nothing_written : goal.returns-clause-nothing_written
returns-clause-nothing_written c =
    λ h. c.enter_page_write.ensures.buffer-is
    ∙ (page-refused c.args.values.now c.args.page.now (λ e. h (ap (λ (n : ℕ). n % 256) c.enter_page_write.ensures.code_is ∙ e))).1

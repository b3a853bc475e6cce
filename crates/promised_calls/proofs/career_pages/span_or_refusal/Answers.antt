use Rattle.std.proofs.Common.{◌≡◌, ◌≢◌, sym, subst}
use Rattle.format.specs.Settings.{settings_of}
use Rattle.pages_spec.specs.Conditions.{page_conditions}
use Rattle.totals_spec.specs.sums.Totals.{Answer, refused}
use Rattle.pages_spec.proofs.Refused.{page-span-refused-exactly, page-span-refused}
use Rattle.promised_calls.specs.Refusals.{RefusesExactly}
use Rattle.promised_calls.proofs.career_pages.span_or_refusal.Goals as goal

pub returns-clause-exactly : goal.returns-clause-exactly
returns-clause-exactly c =
    subst (λ (x : Answer). RefusesExactly (page_conditions (settings_of c.args.c) c.args.u c.args.page.now c.args.start c.args.end) x.refusal) (sym c.page_sum.ensures)
    (page-span-refused-exactly (settings_of c.args.c) c.args.u c.args.page.now c.args.start c.args.end)

pub returns-clause-nothing_else : goal.returns-clause-nothing_else
returns-clause-nothing_else c =
    subst (λ (x : Answer). x.refusal ≢ 0 → x ≡ refused x.refusal 0) (sym c.page_sum.ensures)
    (page-span-refused (settings_of c.args.c) c.args.u c.args.page.now c.args.start c.args.end)

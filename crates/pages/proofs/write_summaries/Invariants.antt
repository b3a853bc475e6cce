-- The values and the first g summaries are the page's.
use Rattle.std.proofs.Common.{◌+◌, ◌*◌}
use Rattle.totals_spec.specs.entries.Bytes.{values_from}
use Rattle.pages_spec.specs.Pages.{page_of}
use Rattle.pages_spec.proofs.PartsOfAPage.{AllBytes}
use Rattle.pages.specs.Paged.{Fills}
use Rattle.pages.proofs.write_summaries.Given as goal

abbrev pub invariant-loop-g : goal.invariant-loop-g
invariant-loop-g l = record {
  first : AllBytes l.fn.page;
  bytes : AllBytes l.page;
  filled : Fills (page_of (values_from l.fn.count l.fn.page)) (8 * l.fn.count + 12 * l.g) l.fn.page l.page;
}

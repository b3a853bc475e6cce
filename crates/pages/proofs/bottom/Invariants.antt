-- `low` is the lowest bit of the first i values.
use Rattle.std.proofs.Common.{◌≡◌, take}
use Rattle.totals_spec.specs.Basics.{least}
use Rattle.totals_spec.specs.entries.Bytes.{values_in}
use Rattle.totals_spec.specs.chain.Limit.{low_of}
use Rattle.pages_spec.specs.Pages.{page_items}
use Rattle.totals_spec.specs.terms.Terms.{terms}
use Rattle.pages.proofs.bottom.Given as goal

abbrev pub invariant-loop-i : goal.invariant-loop-i
invariant-loop-i l = l.low ≡ least l.fn.top low_of (terms (page_items (take l.i (values_in l.fn.values))))

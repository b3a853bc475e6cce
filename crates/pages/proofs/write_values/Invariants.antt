-- The first i values are laid.
use Rattle.std.proofs.Common.{◌*◌}
use Rattle.pages_spec.specs.Pages.{page_of}
use Rattle.pages.specs.Paged.{Fills}
use Rattle.pages.proofs.write_values.Given as goal

abbrev pub invariant-loop-i : goal.invariant-loop-i
invariant-loop-i l = Fills (page_of l.fn.values) (8 * l.i) l.fn.page l.page

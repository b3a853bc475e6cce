use Rattle.pages_spec.proofs.Pages.{page-range}
use Rattle.promises.proofs.pages.counts_in_range.Goals as goal

pub returns : goal.returns
returns c = page-range

use Rattle.pages_spec.proofs.Pages.{page-span}
use Rattle.promises.proofs.pages.span_of_written.Goals as goal

pub returns : goal.returns
returns c = page-span

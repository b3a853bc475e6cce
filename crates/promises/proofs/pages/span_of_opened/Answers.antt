use Rattle.pages_spec.proofs.Pages.{page-span-read}
use Rattle.promises.proofs.pages.span_of_opened.Goals as goal

pub returns : goal.returns
returns c = page-span-read

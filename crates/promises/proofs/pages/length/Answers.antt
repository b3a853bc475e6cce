use Rattle.pages_spec.proofs.Pages.{page-length}
use Rattle.promises.proofs.pages.length.Goals as goal

pub returns : goal.returns
returns c = page-length

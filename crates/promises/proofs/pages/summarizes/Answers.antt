use Rattle.pages_spec.proofs.Pages.{page-summarizes}
use Rattle.promises.proofs.pages.summarizes.Goals as goal

pub returns : goal.returns
returns c = page-summarizes

use Rattle.pages_spec.proofs.Pages.{page-only}
use Rattle.promises.proofs.pages.opens_only.Goals as goal

pub returns : goal.returns
returns c = page-only

use Rattle.pages_spec.proofs.Pages.{page-as-before}
use Rattle.promises.proofs.pages.as_before.Goals as goal

pub returns : goal.returns
returns c = page-as-before

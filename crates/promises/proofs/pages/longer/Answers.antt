use Rattle.pages_spec.proofs.Pages.{page-longer}
use Rattle.promises.proofs.pages.longer.Goals as goal

pub returns : goal.returns
returns c = page-longer

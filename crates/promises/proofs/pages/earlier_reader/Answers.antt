use Rattle.pages_spec.proofs.Pages.{page-earlier}
use Rattle.promises.proofs.pages.earlier_reader.Goals as goal

pub returns : goal.returns
returns c = page-earlier

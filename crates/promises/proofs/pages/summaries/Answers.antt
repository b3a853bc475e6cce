use Rattle.pages_spec.proofs.Pages.{page-summary}
use Rattle.promises.proofs.pages.summaries.Goals as goal

pub returns : goal.returns
returns c = page-summary

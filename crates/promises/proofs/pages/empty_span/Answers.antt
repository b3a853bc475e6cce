use Rattle.pages_spec.proofs.Refused.{page-empty}
use Rattle.promises.proofs.pages.empty_span.Goals as goal

pub returns : goal.returns
returns c = page-empty

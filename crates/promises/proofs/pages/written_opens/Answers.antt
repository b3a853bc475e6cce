use Rattle.pages_spec.proofs.Refused.{page-opens}
use Rattle.promises.proofs.pages.written_opens.Goals as goal

pub returns : goal.returns
returns c = page-opens

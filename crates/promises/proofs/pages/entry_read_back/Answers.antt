use Rattle.pages_spec.proofs.Refused.{page-entry-read-back}
use Rattle.promises.proofs.pages.entry_read_back.Goals as goal

pub returns : goal.returns
returns c = page-entry-read-back

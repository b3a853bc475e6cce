use Rattle.pages_spec.proofs.Refused.{page-entry-refused}
use Rattle.promises.proofs.pages.entry_refused.Goals as goal

pub returns : goal.returns
returns c = page-entry-refused

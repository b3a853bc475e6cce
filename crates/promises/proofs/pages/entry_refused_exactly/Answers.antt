use Rattle.pages_spec.proofs.Refused.{page-entry-refused-exactly}
use Rattle.promises.proofs.pages.entry_refused_exactly.Goals as goal

pub returns : goal.returns
returns c = page-entry-refused-exactly

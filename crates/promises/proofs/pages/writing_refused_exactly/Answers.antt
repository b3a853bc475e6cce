use Rattle.pages_spec.proofs.Refused.{page-refused-exactly}
use Rattle.promises.proofs.pages.writing_refused_exactly.Goals as goal

pub returns : goal.returns
returns c = page-refused-exactly

use Rattle.pages_spec.proofs.Refused.{page-span-refused-exactly}
use Rattle.promises.proofs.pages.span_refused_exactly.Goals as goal

pub returns : goal.returns
returns c = page-span-refused-exactly

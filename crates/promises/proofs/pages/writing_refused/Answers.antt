use Rattle.pages_spec.proofs.Refused.{page-refused}
use Rattle.promises.proofs.pages.writing_refused.Goals as goal

pub returns : goal.returns
returns c = page-refused

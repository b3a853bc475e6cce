use Rattle.pages_spec.proofs.Refused.{page-span-refused}
use Rattle.promises.proofs.pages.span_refused.Goals as goal

pub returns : goal.returns
returns c = page-span-refused

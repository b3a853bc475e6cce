use Rattle.pages_spec.proofs.Refused.{page-span-numbers}
use Rattle.promises.proofs.pages.span_numbers.Goals as goal

pub returns : goal.returns
returns c = page-span-numbers

use Rattle.pages_spec.proofs.Pages.{span-values}
use Rattle.promises.proofs.pages.span_values.Goals as goal

pub returns : goal.returns
returns c = span-values

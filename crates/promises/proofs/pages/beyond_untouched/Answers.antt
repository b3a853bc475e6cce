use Rattle.pages_spec.proofs.Refused.{page-beyond}
use Rattle.promises.proofs.pages.beyond_untouched.Goals as goal

pub returns : goal.returns
returns c = page-beyond

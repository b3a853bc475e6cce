use Rattle.pages_spec.proofs.Pages.{page-both}
use Rattle.promises.proofs.pages.both_readers.Goals as goal

pub returns : goal.returns
returns c = page-both

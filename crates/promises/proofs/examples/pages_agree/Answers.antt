use Rattle.pages_spec.proofs.Examples.{pages-agree}
use Rattle.promises.proofs.examples.pages_agree.Goals as goal

pub returns : goal.returns
returns c = pages-agree

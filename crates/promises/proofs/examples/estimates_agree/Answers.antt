use Rattle.targets_spec.proofs.within.Examples.{estimates-agree}
use Rattle.promises.proofs.examples.estimates_agree.Goals as goal

pub returns : goal.returns
returns c = estimates-agree

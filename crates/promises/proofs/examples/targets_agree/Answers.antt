use Rattle.targets_spec.proofs.several.Examples.{targets-agree}
use Rattle.promises.proofs.examples.targets_agree.Goals as goal

pub returns : goal.returns
returns c = targets-agree

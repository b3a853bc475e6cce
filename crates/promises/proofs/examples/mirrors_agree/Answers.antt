use Rattle.mirror_spec.proofs.Examples.{mirrors-agree}
use Rattle.promises.proofs.examples.mirrors_agree.Goals as goal

pub returns : goal.returns
returns c = mirrors-agree

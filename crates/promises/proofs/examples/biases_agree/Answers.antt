use Rattle.totals_spec.proofs.examples.Examples.{biases-agree}
use Rattle.promises.proofs.examples.biases_agree.Goals as goal

pub returns : goal.returns
returns c = biases-agree

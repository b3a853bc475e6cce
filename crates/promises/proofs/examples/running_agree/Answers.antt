use Rattle.running_spec.proofs.Promises.{running-agree}
use Rattle.promises.proofs.examples.running_agree.Goals as goal

pub returns : goal.returns
returns c = running-agree

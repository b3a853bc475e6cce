use Rattle.totals_spec.proofs.examples.Examples.{careers-agree}
use Rattle.promises.proofs.examples.careers_agree.Goals as goal

pub returns : goal.returns
returns c = careers-agree

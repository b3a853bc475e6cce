use Rattle.figures_spec.proofs.ranges.Examples.{ranges-agree}
use Rattle.promises.proofs.examples.ranges_agree.Goals as goal

pub returns : goal.returns
returns c = ranges-agree

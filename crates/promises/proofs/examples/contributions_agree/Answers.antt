use Rattle.targets_spec.proofs.contribution.Examples.{contributions-agree}
use Rattle.promises.proofs.examples.contributions_agree.Goals as goal

pub returns : goal.returns
returns c = contributions-agree

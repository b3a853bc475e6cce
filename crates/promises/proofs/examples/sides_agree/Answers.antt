use Rattle.totals_spec.proofs.examples.Examples.{sides-agree}
use Rattle.promises.proofs.examples.sides_agree.Goals as goal

pub returns : goal.returns
returns c = sides-agree

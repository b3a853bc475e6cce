use Rattle.totals_spec.proofs.pence.Examples.{sum-pence-agree}
use Rattle.promises.proofs.examples.sum_pence_agree.Goals as goal

pub returns : goal.returns
returns c = sum-pence-agree

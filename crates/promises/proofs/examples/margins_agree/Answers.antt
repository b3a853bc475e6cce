use Rattle.totals_spec.proofs.examples.Examples.{margins-agree}
use Rattle.promises.proofs.examples.margins_agree.Goals as goal

pub returns : goal.returns
returns c = margins-agree

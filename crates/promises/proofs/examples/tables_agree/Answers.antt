use Rattle.figures_spec.proofs.tables.Examples.{tables-agree}
use Rattle.promises.proofs.examples.tables_agree.Goals as goal

pub returns : goal.returns
returns c = tables-agree

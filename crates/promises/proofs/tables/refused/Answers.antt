use Rattle.figures_spec.proofs.tables.Tables.{table-refused}
use Rattle.promises.proofs.tables.refused.Goals as goal

pub returns : goal.returns
returns c = table-refused

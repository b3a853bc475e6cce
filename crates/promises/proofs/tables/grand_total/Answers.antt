use Rattle.figures_spec.proofs.tables.Tables.{table-grand}
use Rattle.promises.proofs.tables.grand_total.Goals as goal

pub returns : goal.returns
returns c = table-grand

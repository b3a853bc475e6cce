use Rattle.figures_spec.proofs.tables.Tables.{table-untouched}
use Rattle.promises.proofs.tables.untouched.Goals as goal

pub returns : goal.returns
returns c = table-untouched

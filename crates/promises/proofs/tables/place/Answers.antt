use Rattle.figures_spec.proofs.tables.Tables.{table-place}
use Rattle.promises.proofs.tables.place.Goals as goal

pub returns : goal.returns
returns c = table-place

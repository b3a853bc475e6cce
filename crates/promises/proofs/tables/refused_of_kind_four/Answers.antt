use Rattle.figures_spec.proofs.tables.OtherFormats.{table-extended-elsewhere}
use Rattle.promises.proofs.tables.refused_of_kind_four.Goals as goal

pub returns : goal.returns
returns c = table-extended-elsewhere

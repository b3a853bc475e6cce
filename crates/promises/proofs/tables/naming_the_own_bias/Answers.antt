use Rattle.figures_spec.proofs.tables.OtherFormats.{table-named-own}
use Rattle.promises.proofs.tables.naming_the_own_bias.Goals as goal

pub returns : goal.returns
returns c = table-named-own

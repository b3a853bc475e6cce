use Rattle.targets_spec.proofs.formats.NamedBias.{named-own}
use Rattle.promises.proofs.exact_totals.naming_the_own_bias_further.Goals as goal

pub returns : goal.returns
returns c = named-own

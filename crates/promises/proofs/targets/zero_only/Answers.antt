use Rattle.totals_spec.proofs.rounding.IntoFormat.{target-zero}
use Rattle.promises.proofs.targets.zero_only.Goals as goal

pub returns : goal.returns
returns c = target-zero

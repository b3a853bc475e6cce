use Rattle.promises.proofs.roundings.OverflowThreshold.{nearest-overflows}
use Rattle.promises.proofs.rounding.nearest_overflows.Goals as goal

pub returns : goal.returns
returns c = nearest-overflows

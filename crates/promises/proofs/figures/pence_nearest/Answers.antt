use Rattle.promises.proofs.roundings.NearestPence.{pence-nearest}
use Rattle.promises.proofs.figures.pence_nearest.Goals as goal

pub returns : goal.returns
returns c = pence-nearest

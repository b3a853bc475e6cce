use Rattle.promises.proofs.roundings.NearestPence.{pence-one}
use Rattle.promises.proofs.figures.pence_one.Goals as goal

pub returns : goal.returns
returns c = pence-one

use Rattle.promises.proofs.roundings.NearestPence.{pence-round}
use Rattle.promises.proofs.figures.pence_round.Goals as goal

pub returns : goal.returns
returns c = pence-round

use Rattle.promises.proofs.roundings.OfEveryRounding.{held-exactly}
use Rattle.promises.proofs.rounding.held_exactly.Goals as goal

pub returns : goal.returns
returns c = held-exactly

use Rattle.promises.proofs.roundings.OneAnswer.{rounds-to-one}
use Rattle.promises.proofs.rounding.rounds_to_one.Goals as goal

pub returns : goal.returns
returns c = rounds-to-one

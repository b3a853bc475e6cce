use Rattle.promises.proofs.roundings.IeeeRounding.{rounds-alike}
use Rattle.promises.proofs.ieee_model.rounds_alike.Goals as goal

pub returns : goal.returns
returns c = rounds-alike

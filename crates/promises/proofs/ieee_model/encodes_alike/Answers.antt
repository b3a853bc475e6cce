use Rattle.promises.proofs.roundings.IeeeAddition.{encodes-alike}
use Rattle.promises.proofs.ieee_model.encodes_alike.Goals as goal

pub returns : goal.returns
returns c = encodes-alike

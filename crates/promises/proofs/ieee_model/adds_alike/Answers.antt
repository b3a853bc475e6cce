use Rattle.promises.proofs.roundings.IeeeAddition.{adds-alike}
use Rattle.promises.proofs.ieee_model.adds_alike.Goals as goal

pub returns : goal.returns
returns c = adds-alike

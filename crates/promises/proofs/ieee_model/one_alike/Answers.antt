use Rattle.promises.proofs.roundings.OneElement.{one-alike}
use Rattle.promises.proofs.ieee_model.one_alike.Goals as goal

pub returns : goal.returns
returns c = one-alike

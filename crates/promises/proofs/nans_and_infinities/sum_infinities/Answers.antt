use Rattle.promises.proofs.records.WithoutAPass.{sum-infinities}
use Rattle.promises.proofs.nans_and_infinities.sum_infinities.Goals as goal

pub returns : goal.returns
returns c = sum-infinities

use Rattle.promises.proofs.records.WithoutAPass.{dot-infinities}
use Rattle.promises.proofs.nans_and_infinities.dot_infinities.Goals as goal

pub returns : goal.returns
returns c = dot-infinities

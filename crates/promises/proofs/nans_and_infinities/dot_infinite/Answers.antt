use Rattle.promises.proofs.records.WithoutAPass.{dot-infinite}
use Rattle.promises.proofs.nans_and_infinities.dot_infinite.Goals as goal

pub returns : goal.returns
returns c = dot-infinite

use Rattle.promises.proofs.records.WithoutAPass.{sum-infinite}
use Rattle.promises.proofs.nans_and_infinities.sum_infinite.Goals as goal

pub returns : goal.returns
returns c = sum-infinite

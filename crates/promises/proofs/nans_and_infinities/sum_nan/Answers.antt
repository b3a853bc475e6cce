use Rattle.promises.proofs.records.WithoutAPass.{sum-nan}
use Rattle.promises.proofs.nans_and_infinities.sum_nan.Goals as goal

pub returns : goal.returns
returns c = sum-nan

use Rattle.promises.proofs.records.WithoutAPass.{dot-nan}
use Rattle.promises.proofs.nans_and_infinities.dot_nan.Goals as goal

pub returns : goal.returns
returns c = dot-nan

use Rattle.promises.proofs.records.TenByteNans.{extended-sum-nan}
use Rattle.promises.proofs.nans_and_infinities.extended_sum_nan.Goals as goal

pub returns : goal.returns
returns c = extended-sum-nan

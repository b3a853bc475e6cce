use Rattle.promises.proofs.records.TenByteNans.{extended-dot-nan}
use Rattle.promises.proofs.nans_and_infinities.extended_dot_nan.Goals as goal

pub returns : goal.returns
returns c = extended-dot-nan

use Rattle.promises.proofs.records.Subnormals.{sum-subnormal}
use Rattle.promises.proofs.zeros_and_subnormals.sum_subnormal.Goals as goal

pub returns : goal.returns
returns c = sum-subnormal

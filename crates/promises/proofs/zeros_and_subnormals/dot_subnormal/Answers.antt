use Rattle.promises.proofs.records.Subnormals.{dot-subnormal}
use Rattle.promises.proofs.zeros_and_subnormals.dot_subnormal.Goals as goal

pub returns : goal.returns
returns c = dot-subnormal

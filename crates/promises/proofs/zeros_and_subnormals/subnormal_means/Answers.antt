use Rattle.promises.proofs.records.Subnormals.{subnormal-means}
use Rattle.promises.proofs.zeros_and_subnormals.subnormal_means.Goals as goal

pub returns : goal.returns
returns c = subnormal-means

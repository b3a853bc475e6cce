use Rattle.promises.proofs.roundings.TenByteSums.{extended-sum-means}
use Rattle.promises.proofs.kind4.extended_sum_means.Goals as goal

pub returns : goal.returns
returns c = extended-sum-means

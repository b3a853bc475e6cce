use Rattle.promises.proofs.roundings.TenByteSums.{extended-sum-near}
use Rattle.promises.proofs.kind4.extended_sum_near.Goals as goal

pub returns : goal.returns
returns c = extended-sum-near

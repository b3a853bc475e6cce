use Rattle.promises.proofs.roundings.TenByteSums.{extended-sum-held}
use Rattle.promises.proofs.kind4.extended_sum_held.Goals as goal

pub returns : goal.returns
returns c = extended-sum-held

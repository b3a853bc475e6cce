use Rattle.promises.proofs.records.TenByteRecords.{extended-sum-infinities}
use Rattle.promises.proofs.special_kind4.extended_sum_infinities.Goals as goal

pub returns : goal.returns
returns c = extended-sum-infinities

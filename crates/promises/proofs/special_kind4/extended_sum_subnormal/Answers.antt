use Rattle.promises.proofs.records.TenByteRecords.{extended-sum-subnormal}
use Rattle.promises.proofs.special_kind4.extended_sum_subnormal.Goals as goal

pub returns : goal.returns
returns c = extended-sum-subnormal

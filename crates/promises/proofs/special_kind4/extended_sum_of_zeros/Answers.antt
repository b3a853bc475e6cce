use Rattle.promises.proofs.records.TenByteRecords.{extended-sum-of-zeros}
use Rattle.promises.proofs.special_kind4.extended_sum_of_zeros.Goals as goal

pub returns : goal.returns
returns c = extended-sum-of-zeros

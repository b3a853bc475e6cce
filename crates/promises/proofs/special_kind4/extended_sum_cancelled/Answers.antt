use Rattle.promises.proofs.records.TenByteRecords.{extended-sum-cancelled}
use Rattle.promises.proofs.special_kind4.extended_sum_cancelled.Goals as goal

pub returns : goal.returns
returns c = extended-sum-cancelled

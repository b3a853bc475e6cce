use Rattle.promises.proofs.records.TenByteRecords.{extended-sum-infinite}
use Rattle.promises.proofs.special_kind4.extended_sum_infinite.Goals as goal

pub returns : goal.returns
returns c = extended-sum-infinite

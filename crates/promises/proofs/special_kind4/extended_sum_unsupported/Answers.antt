use Rattle.promises.proofs.records.TenByteRecords.{extended-sum-unsupported}
use Rattle.promises.proofs.special_kind4.extended_sum_unsupported.Goals as goal

pub returns : goal.returns
returns c = extended-sum-unsupported

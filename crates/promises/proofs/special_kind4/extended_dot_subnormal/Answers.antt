use Rattle.promises.proofs.records.TenByteRecords.{extended-dot-subnormal}
use Rattle.promises.proofs.special_kind4.extended_dot_subnormal.Goals as goal

pub returns : goal.returns
returns c = extended-dot-subnormal

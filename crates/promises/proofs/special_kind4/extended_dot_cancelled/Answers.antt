use Rattle.promises.proofs.records.TenByteRecords.{extended-dot-cancelled}
use Rattle.promises.proofs.special_kind4.extended_dot_cancelled.Goals as goal

pub returns : goal.returns
returns c = extended-dot-cancelled

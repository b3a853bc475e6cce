use Rattle.promises.proofs.records.TenByteRecords.{extended-dot-infinite}
use Rattle.promises.proofs.special_kind4.extended_dot_infinite.Goals as goal

pub returns : goal.returns
returns c = extended-dot-infinite

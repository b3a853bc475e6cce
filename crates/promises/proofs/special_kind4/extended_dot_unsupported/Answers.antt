use Rattle.promises.proofs.records.TenByteRecords.{extended-dot-unsupported}
use Rattle.promises.proofs.special_kind4.extended_dot_unsupported.Goals as goal

pub returns : goal.returns
returns c = extended-dot-unsupported

use Rattle.promises.proofs.records.TenByteRecords.{extended-dot-invalid}
use Rattle.promises.proofs.special_kind4.extended_dot_invalid.Goals as goal

pub returns : goal.returns
returns c = extended-dot-invalid

use Rattle.promises.proofs.records.TenByteRecords.{extended-dot-of-zeros}
use Rattle.promises.proofs.special_kind4.extended_dot_of_zeros.Goals as goal

pub returns : goal.returns
returns c = extended-dot-of-zeros

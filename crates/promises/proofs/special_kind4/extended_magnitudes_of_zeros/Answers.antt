use Rattle.promises.proofs.records.TenByteRecords.{extended-magnitudes-of-zeros}
use Rattle.promises.proofs.special_kind4.extended_magnitudes_of_zeros.Goals as goal

pub returns : goal.returns
returns c = extended-magnitudes-of-zeros

use Rattle.promises.proofs.records.TenByteRecords.{extended-magnitudes-quiet}
use Rattle.promises.proofs.special_kind4.extended_magnitudes_quiet.Goals as goal

pub returns : goal.returns
returns c = extended-magnitudes-quiet

use Rattle.promises.proofs.records.TenByteRecords.{extended-magnitudes-infinite}
use Rattle.promises.proofs.special_kind4.extended_magnitudes_infinite.Goals as goal

pub returns : goal.returns
returns c = extended-magnitudes-infinite

use Rattle.promises.proofs.records.TenByteRecords.{extended-dot-infinities}
use Rattle.promises.proofs.special_kind4.extended_dot_infinities.Goals as goal

pub returns : goal.returns
returns c = extended-dot-infinities

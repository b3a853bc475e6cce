use Rattle.promises.proofs.records.TenByteReads.{extended-bits}
use Rattle.promises.proofs.special_kind4.extended_bits.Goals as goal

pub returns : goal.returns
returns c = extended-bits

use Rattle.promises.proofs.records.NanPatterns.{special-bits}
use Rattle.promises.proofs.nans_and_infinities.special_bits.Goals as goal

pub returns : goal.returns
returns c = special-bits

use Rattle.targets_spec.proofs.formats.TenBytes.{extended-elsewhere}
use Rattle.promises.proofs.eighty_bits.refused_within.Goals as goal

pub returns : goal.returns
returns c = extended-elsewhere

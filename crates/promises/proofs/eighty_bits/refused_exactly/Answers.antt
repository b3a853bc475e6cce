use Rattle.totals_spec.proofs.ten_bytes.Totals.{extended-refused-exactly}
use Rattle.promises.proofs.eighty_bits.refused_exactly.Goals as goal

pub returns : goal.returns
returns c = extended-refused-exactly

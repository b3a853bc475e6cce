use Rattle.totals_spec.proofs.ten_bytes.Calls.{extended-elsewhere}
use Rattle.promises.proofs.eighty_bits.refused_elsewhere.Goals as goal

pub returns : goal.returns
returns c = extended-elsewhere

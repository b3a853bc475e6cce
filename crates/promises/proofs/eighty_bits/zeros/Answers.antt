use Rattle.totals_spec.proofs.ten_bytes.Totals.{extended-zeros}
use Rattle.promises.proofs.eighty_bits.zeros.Goals as goal

pub returns : goal.returns
returns c = extended-zeros

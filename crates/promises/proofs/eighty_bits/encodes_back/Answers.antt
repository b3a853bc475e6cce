use Rattle.totals_spec.proofs.ten_bytes.Totals.{extended-back}
use Rattle.promises.proofs.eighty_bits.encodes_back.Goals as goal

pub returns : goal.returns
returns c = extended-back

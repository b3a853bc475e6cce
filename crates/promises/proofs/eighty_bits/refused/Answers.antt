use Rattle.totals_spec.proofs.ten_bytes.Totals.{extended-refused}
use Rattle.promises.proofs.eighty_bits.refused.Goals as goal

pub returns : goal.returns
returns c = extended-refused

use Rattle.totals_spec.proofs.ten_bytes.Totals.{extended-limit}
use Rattle.promises.proofs.eighty_bits.limit.Goals as goal

pub returns : goal.returns
returns c = extended-limit

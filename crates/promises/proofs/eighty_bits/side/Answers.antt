use Rattle.totals_spec.proofs.ten_bytes.Totals.{extended-side}
use Rattle.promises.proofs.eighty_bits.side.Goals as goal

pub returns : goal.returns
returns c = extended-side

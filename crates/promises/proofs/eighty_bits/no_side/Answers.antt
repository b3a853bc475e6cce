use Rattle.totals_spec.proofs.ten_bytes.Totals.{extended-no-side}
use Rattle.promises.proofs.eighty_bits.no_side.Goals as goal

pub returns : goal.returns
returns c = extended-no-side

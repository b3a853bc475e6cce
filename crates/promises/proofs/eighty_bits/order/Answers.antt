use Rattle.totals_spec.proofs.ten_bytes.Totals.{extended-order}
use Rattle.promises.proofs.eighty_bits.order.Goals as goal

pub returns : goal.returns
returns c = extended-order

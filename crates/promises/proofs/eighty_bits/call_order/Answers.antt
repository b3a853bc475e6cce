use Rattle.totals_spec.proofs.ten_bytes.Calls.{extended-call-order}
use Rattle.promises.proofs.eighty_bits.call_order.Goals as goal

pub returns : goal.returns
returns c = extended-call-order

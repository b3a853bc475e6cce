use Rattle.totals_spec.proofs.ten_bytes.Totals.{extended-ends}
use Rattle.promises.proofs.eighty_bits.chain_ends.Goals as goal

pub returns : goal.returns
returns c = extended-ends

use Rattle.totals_spec.proofs.ten_bytes.Totals.{extended-edges}
use Rattle.promises.proofs.eighty_bits.edges.Goals as goal

pub returns : goal.returns
returns c = extended-edges

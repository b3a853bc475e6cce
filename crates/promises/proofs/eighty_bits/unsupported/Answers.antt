use Rattle.totals_spec.proofs.ten_bytes.Totals.{extended-unsupported}
use Rattle.promises.proofs.eighty_bits.unsupported.Goals as goal

pub returns : goal.returns
returns c = extended-unsupported

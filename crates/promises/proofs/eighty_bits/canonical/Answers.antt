use Rattle.totals_spec.proofs.ten_bytes.Totals.{extended-canonical}
use Rattle.promises.proofs.eighty_bits.canonical.Goals as goal

pub returns : goal.returns
returns c = extended-canonical

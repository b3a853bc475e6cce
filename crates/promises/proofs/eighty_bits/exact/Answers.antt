use Rattle.totals_spec.proofs.ten_bytes.Totals.{extended-exact}
use Rattle.promises.proofs.eighty_bits.exact.Goals as goal

pub returns : goal.returns
returns c = extended-exact

use Rattle.totals_spec.proofs.ten_bytes.Calls.{tens-values}
use Rattle.promises.proofs.eighty_bits.values_of_ten_bytes.Goals as goal

pub returns : goal.returns
returns c = tens-values

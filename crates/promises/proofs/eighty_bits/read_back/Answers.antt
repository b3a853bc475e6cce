use Rattle.totals_spec.proofs.ten_bytes.Calls.{extended-read-back}
use Rattle.promises.proofs.eighty_bits.read_back.Goals as goal

pub returns : goal.returns
returns c = extended-read-back

use Rattle.totals_spec.proofs.ten_bytes.Calls.{extended-call-refused-exactly}
use Rattle.promises.proofs.eighty_bits.call_refused_exactly.Goals as goal

pub returns : goal.returns
returns c = extended-call-refused-exactly

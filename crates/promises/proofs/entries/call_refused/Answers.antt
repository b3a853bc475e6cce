use Rattle.totals_spec.proofs.ten_bytes.Calls.{call-refused}
use Rattle.promises.proofs.entries.call_refused.Goals as goal

pub returns : goal.returns
returns c = call-refused

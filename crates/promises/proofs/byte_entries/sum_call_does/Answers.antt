use Rattle.promises.proofs.records.ByteEntries.{sum-call-does}
use Rattle.promises.proofs.byte_entries.sum_call_does.Goals as goal

pub returns : goal.returns
returns c = sum-call-does

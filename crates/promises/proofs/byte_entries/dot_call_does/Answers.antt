use Rattle.promises.proofs.records.ByteEntries.{dot-call-does}
use Rattle.promises.proofs.byte_entries.dot_call_does.Goals as goal

pub returns : goal.returns
returns c = dot-call-does

use Rattle.promises.proofs.records.ByteEntries.{extended-dot-call-does}
use Rattle.promises.proofs.byte_entries.extended_dot_call_does.Goals as goal

pub returns : goal.returns
returns c = extended-dot-call-does

use Rattle.promises.proofs.records.ByteEntries.{extended-sum-call-does}
use Rattle.promises.proofs.byte_entries.extended_sum_call_does.Goals as goal

pub returns : goal.returns
returns c = extended-sum-call-does

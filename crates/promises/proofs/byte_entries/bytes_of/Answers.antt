use Rattle.promises.proofs.records.ByteEntries.{bytes-of}
use Rattle.promises.proofs.byte_entries.bytes_of.Goals as goal

pub returns : goal.returns
returns c = bytes-of

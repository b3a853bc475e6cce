use Rattle.promises.proofs.records.ByteEntries.{eights-values}
use Rattle.promises.proofs.byte_entries.eights_values.Goals as goal

pub returns : goal.returns
returns c = eights-values

use Rattle.promises.proofs.records.TenByteReads.{extended-reads}
use Rattle.promises.proofs.special_kind4.extended_reads.Goals as goal

pub returns : goal.returns
returns c = extended-reads

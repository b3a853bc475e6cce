use Rattle.promises.proofs.records.NanPatterns.{special-reads}
use Rattle.promises.proofs.nans_and_infinities.special_reads.Goals as goal

pub returns : goal.returns
returns c = special-reads

use Rattle.promises.proofs.records.TenByteReads.{extended-subnormal-means}
use Rattle.promises.proofs.special_kind4.extended_subnormal_means.Goals as goal

pub returns : goal.returns
returns c = extended-subnormal-means

use Rattle.mirror_spec.proofs.Totals.{sum-mirror}
use Rattle.promises.proofs.mirror.sum_mirror.Goals as goal

pub returns : goal.returns
returns c = sum-mirror

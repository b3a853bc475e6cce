use Rattle.mirror_spec.proofs.Totals.{dot-mirror}
use Rattle.promises.proofs.mirror.dot_mirror.Goals as goal

pub returns : goal.returns
returns c = dot-mirror

use Rattle.mirror_spec.proofs.TenBytes.{extended-mirror}
use Rattle.promises.proofs.mirror.extended_mirror.Goals as goal

pub returns : goal.returns
returns c = extended-mirror

use Rattle.mirror_spec.proofs.TenBytes.{negated-extended}
use Rattle.promises.proofs.mirror.negated_extended.Goals as goal

pub returns : goal.returns
returns c = negated-extended

use Rattle.mirror_spec.proofs.Encodings.{negated-value}
use Rattle.promises.proofs.mirror.negated_value.Goals as goal

pub returns : goal.returns
returns c = negated-value

use Rattle.targets_spec.proofs.several.Records.{target-refusal}
use Rattle.promises.proofs.targets.refused_exactly.Goals as goal

pub returns : goal.returns
returns c = target-refusal

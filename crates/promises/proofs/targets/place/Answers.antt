use Rattle.targets_spec.proofs.several.Records.{target-place}
use Rattle.promises.proofs.targets.place.Goals as goal

pub returns : goal.returns
returns c = target-place

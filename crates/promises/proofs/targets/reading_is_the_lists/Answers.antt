use Rattle.targets_spec.proofs.several.RoundedAsTheSum.{target-reading}
use Rattle.promises.proofs.targets.reading_is_the_lists.Goals as goal

pub returns : goal.returns
returns c = target-reading

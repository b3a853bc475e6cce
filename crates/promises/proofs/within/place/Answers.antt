use Rattle.targets_spec.proofs.within.Answers.{within-place}
use Rattle.promises.proofs.within.place.Goals as goal

pub returns : goal.returns
returns c = within-place

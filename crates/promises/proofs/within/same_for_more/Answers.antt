use Rattle.targets_spec.proofs.within.Answers.{within-same}
use Rattle.promises.proofs.within.same_for_more.Goals as goal

pub returns : goal.returns
returns c = within-same

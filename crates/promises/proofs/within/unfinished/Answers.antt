use Rattle.targets_spec.proofs.within.Answers.{within-unfinished}
use Rattle.promises.proofs.within.unfinished.Goals as goal

pub returns : goal.returns
returns c = within-unfinished

use Rattle.targets_spec.proofs.within.Answers.{within-refused}
use Rattle.promises.proofs.within.refused.Goals as goal

pub returns : goal.returns
returns c = within-refused

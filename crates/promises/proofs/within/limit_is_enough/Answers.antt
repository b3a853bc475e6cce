use Rattle.targets_spec.proofs.within.Answers.{within-limit}
use Rattle.promises.proofs.within.limit_is_enough.Goals as goal

pub returns : goal.returns
returns c = within-limit

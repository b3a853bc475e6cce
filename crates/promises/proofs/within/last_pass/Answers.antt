use Rattle.targets_spec.proofs.within.Answers.{within-last}
use Rattle.promises.proofs.within.last_pass.Goals as goal

pub returns : goal.returns
returns c = within-last

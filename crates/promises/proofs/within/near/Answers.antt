use Rattle.targets_spec.proofs.within.Answers.{within-near}
use Rattle.promises.proofs.within.near.Goals as goal

pub returns : goal.returns
returns c = within-near

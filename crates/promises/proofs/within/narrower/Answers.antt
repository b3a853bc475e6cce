use Rattle.targets_spec.proofs.within.Answers.{within-narrower}
use Rattle.promises.proofs.within.narrower.Goals as goal

pub returns : goal.returns
returns c = within-narrower

use Rattle.targets_spec.proofs.within.Answers.{within-in-time}
use Rattle.promises.proofs.within.in_time.Goals as goal

pub returns : goal.returns
returns c = within-in-time

use Rattle.targets_spec.proofs.within.Answers.{within-order}
use Rattle.promises.proofs.within.order.Goals as goal

pub returns : goal.returns
returns c = within-order

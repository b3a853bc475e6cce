use Rattle.running_spec.proofs.Promises.{taken-later}
use Rattle.promises.proofs.taking_back.before_or_after_a_merge.Goals as goal

pub returns : goal.returns
returns c = taken-later

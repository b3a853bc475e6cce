use Rattle.running_spec.proofs.Promises.{take-pairs-keeps}
use Rattle.promises.proofs.taking_back.take_pairs_keeps.Goals as goal

pub returns : goal.returns
returns c = take-pairs-keeps

use Rattle.running_spec.proofs.Promises.{unmerge-keeps}
use Rattle.promises.proofs.taking_back.unmerge_keeps.Goals as goal

pub returns : goal.returns
returns c = unmerge-keeps

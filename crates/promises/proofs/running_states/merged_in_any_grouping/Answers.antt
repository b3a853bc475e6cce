use Rattle.running_spec.proofs.Promises.{merged-assoc}
use Rattle.promises.proofs.running_states.merged_in_any_grouping.Goals as goal

pub returns : goal.returns
returns c = merged-assoc

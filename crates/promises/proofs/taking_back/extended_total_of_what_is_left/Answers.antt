use Rattle.running_spec.proofs.Promises.{taken-extended}
use Rattle.promises.proofs.taking_back.extended_total_of_what_is_left.Goals as goal

pub returns : goal.returns
returns c = taken-extended

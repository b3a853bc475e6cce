use Rattle.running_spec.proofs.Promises.{taken-canonical}
use Rattle.promises.proofs.taking_back.stays_canonical.Goals as goal

pub returns : goal.returns
returns c = taken-canonical

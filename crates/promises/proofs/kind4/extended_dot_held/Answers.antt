use Rattle.promises.proofs.roundings.TenByteSums.{extended-dot-held}
use Rattle.promises.proofs.kind4.extended_dot_held.Goals as goal

pub returns : goal.returns
returns c = extended-dot-held

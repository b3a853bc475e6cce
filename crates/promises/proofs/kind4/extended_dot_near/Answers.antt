use Rattle.promises.proofs.roundings.TenByteSums.{extended-dot-near}
use Rattle.promises.proofs.kind4.extended_dot_near.Goals as goal

pub returns : goal.returns
returns c = extended-dot-near

use Rattle.text.proofs.Prefix.{prefix}
use Rattle.text.proofs.decided.first_bytes_decide.Goals as goal

pub returns : goal.returns
returns c = prefix

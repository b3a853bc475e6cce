use Rattle.running_spec.proofs.Promises.{running-opens}
use Rattle.promises.proofs.running_totals.leaves_what_opens.Goals as goal

pub returns : goal.returns
returns c = running-opens

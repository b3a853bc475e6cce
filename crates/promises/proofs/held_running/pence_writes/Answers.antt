use Rattle.promises.proofs.records.RunningCalls.{pence-writes}
use Rattle.promises.proofs.held_running.pence_writes.Goals as goal

pub returns : goal.returns
returns c = pence-writes

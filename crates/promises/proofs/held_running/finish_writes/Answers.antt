use Rattle.promises.proofs.records.RunningCalls.{finish-writes}
use Rattle.promises.proofs.held_running.finish_writes.Goals as goal

pub returns : goal.returns
returns c = finish-writes

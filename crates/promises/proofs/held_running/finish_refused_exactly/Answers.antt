use Rattle.promises.proofs.records.RunningCalls.{finish-refused-exactly}
use Rattle.promises.proofs.held_running.finish_refused_exactly.Goals as goal

pub returns : goal.returns
returns c = finish-refused-exactly

use Rattle.promises.proofs.records.RunningRows.{into-agree}
use Rattle.promises.proofs.held_running.into_agree.Goals as goal

pub returns : goal.returns
returns c = into-agree

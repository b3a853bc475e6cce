use Rattle.totals_spec.proofs.entries.ReadBack.{entry-read-back}
use Rattle.promises.proofs.entries.entry_read_back.Goals as goal

pub returns : goal.returns
returns c = entry-read-back

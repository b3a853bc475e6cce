use Rattle.totals_spec.proofs.pence.PenceOfLists.{pence-entry-refused}
use Rattle.promises.proofs.pence.entry_refused.Goals as goal

pub returns : goal.returns
returns c = pence-entry-refused

use Rattle.totals_spec.proofs.pence.PenceOfLists.{sum-pence-refused}
use Rattle.promises.proofs.pence.list_refused.Goals as goal

pub returns : goal.returns
returns c = sum-pence-refused

use Rattle.totals_spec.proofs.pence.PenceOfLists.{one-pence}
use Rattle.promises.proofs.pence.one_element.Goals as goal

pub returns : goal.returns
returns c = one-pence

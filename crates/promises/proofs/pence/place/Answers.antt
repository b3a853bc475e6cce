use Rattle.totals_spec.proofs.pence.PenceOfLists.{pence-place}
use Rattle.promises.proofs.pence.place.Goals as goal

pub returns : goal.returns
returns c = pence-place

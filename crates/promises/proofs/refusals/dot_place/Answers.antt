use Rattle.totals_spec.proofs.refusals.RefusedRecords.{dot-place}
use Rattle.promises.proofs.refusals.dot_place.Goals as goal

pub returns : goal.returns
returns c = dot-place

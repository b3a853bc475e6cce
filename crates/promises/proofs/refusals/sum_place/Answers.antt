use Rattle.totals_spec.proofs.refusals.RefusedRecords.{sum-place}
use Rattle.promises.proofs.refusals.sum_place.Goals as goal

pub returns : goal.returns
returns c = sum-place

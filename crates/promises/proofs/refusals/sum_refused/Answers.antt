use Rattle.totals_spec.proofs.refusals.RefusedRecords.{sum-refused}
use Rattle.promises.proofs.refusals.sum_refused.Goals as goal

pub returns : goal.returns
returns c = sum-refused

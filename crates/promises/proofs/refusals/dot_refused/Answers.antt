use Rattle.totals_spec.proofs.refusals.RefusedRecords.{dot-refused}
use Rattle.promises.proofs.refusals.dot_refused.Goals as goal

pub returns : goal.returns
returns c = dot-refused

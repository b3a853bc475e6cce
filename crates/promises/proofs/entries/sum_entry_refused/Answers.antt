use Rattle.totals_spec.proofs.refusals.RefusedRecords.{sum-entry-refused}
use Rattle.promises.proofs.entries.sum_entry_refused.Goals as goal

pub returns : goal.returns
returns c = sum-entry-refused

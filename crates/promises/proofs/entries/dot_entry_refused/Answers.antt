use Rattle.totals_spec.proofs.refusals.RefusedRecords.{dot-entry-refused}
use Rattle.promises.proofs.entries.dot_entry_refused.Goals as goal

pub returns : goal.returns
returns c = dot-entry-refused

use Rattle.totals_spec.proofs.refusals.RefusedRecords.{dot-refusal}
use Rattle.promises.proofs.refusals.dot_refusal.Goals as goal

pub returns : goal.returns
returns c = dot-refusal

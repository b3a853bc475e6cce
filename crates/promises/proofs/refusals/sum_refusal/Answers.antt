use Rattle.totals_spec.proofs.refusals.RefusedRecords.{sum-refusal}
use Rattle.promises.proofs.refusals.sum_refusal.Goals as goal

pub returns : goal.returns
returns c = sum-refusal

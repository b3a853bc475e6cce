use Rattle.totals_spec.proofs.refusals.Exactly.{sum-refused-exactly}
use Rattle.promises.proofs.refusals.sum_refused_exactly.Goals as goal

pub returns : goal.returns
returns c = sum-refused-exactly

use Rattle.totals_spec.proofs.chain.PassesOfRecords.{sum-limit}
use Rattle.promises.proofs.passes.sum_limit.Goals as goal

pub returns : goal.returns
returns c = sum-limit

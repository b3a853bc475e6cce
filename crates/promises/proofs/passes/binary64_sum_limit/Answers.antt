use Rattle.totals_spec.proofs.chain.Binary64Limit.{binary64-sum-limit}
use Rattle.promises.proofs.passes.binary64_sum_limit.Goals as goal

pub returns : goal.returns
returns c = binary64-sum-limit

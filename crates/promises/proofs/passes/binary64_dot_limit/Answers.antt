use Rattle.totals_spec.proofs.chain.Binary64Limit.{binary64-dot-limit}
use Rattle.promises.proofs.passes.binary64_dot_limit.Goals as goal

pub returns : goal.returns
returns c = binary64-dot-limit

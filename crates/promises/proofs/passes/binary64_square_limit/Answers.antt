use Rattle.totals_spec.proofs.chain.Binary64Limit.{binary64-square-limit}
use Rattle.promises.proofs.passes.binary64_square_limit.Goals as goal

pub returns : goal.returns
returns c = binary64-square-limit

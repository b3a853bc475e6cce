use Rattle.totals_spec.proofs.chain.PassesOfRecords.{dot-limit}
use Rattle.promises.proofs.passes.dot_limit.Goals as goal

pub returns : goal.returns
returns c = dot-limit

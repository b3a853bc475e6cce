use Rattle.totals_spec.proofs.chain.EndsAndEdges.{sum-ends}
use Rattle.promises.proofs.passes.sum_ends.Goals as goal

pub returns : goal.returns
returns c = sum-ends

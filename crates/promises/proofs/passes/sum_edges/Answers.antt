use Rattle.totals_spec.proofs.chain.EndsAndEdges.{sum-edges}
use Rattle.promises.proofs.passes.sum_edges.Goals as goal

pub returns : goal.returns
returns c = sum-edges

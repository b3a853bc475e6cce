use Rattle.totals_spec.proofs.chain.EndsAndEdges.{dot-edges}
use Rattle.promises.proofs.passes.dot_edges.Goals as goal

pub returns : goal.returns
returns c = dot-edges

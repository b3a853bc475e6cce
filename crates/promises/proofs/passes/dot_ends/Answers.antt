use Rattle.totals_spec.proofs.chain.EndsAndEdges.{dot-ends}
use Rattle.promises.proofs.passes.dot_ends.Goals as goal

pub returns : goal.returns
returns c = dot-ends

use Rattle.totals_spec.proofs.chain.ByChain.{dot-by-chain}
use Rattle.promises.proofs.exact_totals.dot_by_chain.Goals as goal

pub returns : goal.returns
returns c = dot-by-chain

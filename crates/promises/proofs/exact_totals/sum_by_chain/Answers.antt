use Rattle.totals_spec.proofs.chain.ByChain.{sum-by-chain}
use Rattle.promises.proofs.exact_totals.sum_by_chain.Goals as goal

pub returns : goal.returns
returns c = sum-by-chain

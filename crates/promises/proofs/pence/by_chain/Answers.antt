use Rattle.totals_spec.proofs.pence.HundredfoldChain.{pence-by-chain}
use Rattle.promises.proofs.pence.by_chain.Goals as goal

pub returns : goal.returns
returns c = pence-by-chain

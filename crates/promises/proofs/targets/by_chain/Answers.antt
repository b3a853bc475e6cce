use Rattle.targets_spec.proofs.several.RoundedAsTheSum.{target-by-chain}
use Rattle.promises.proofs.targets.by_chain.Goals as goal

pub returns : goal.returns
returns c = target-by-chain

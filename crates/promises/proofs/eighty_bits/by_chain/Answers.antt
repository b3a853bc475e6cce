use Rattle.totals_spec.proofs.ten_bytes.Totals.{extended-by-chain}
use Rattle.promises.proofs.eighty_bits.by_chain.Goals as goal

pub returns : goal.returns
returns c = extended-by-chain

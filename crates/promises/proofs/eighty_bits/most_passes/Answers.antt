use Rattle.totals_spec.proofs.ten_bytes.Totals.{extended-most}
use Rattle.promises.proofs.eighty_bits.most_passes.Goals as goal

pub returns : goal.returns
returns c = extended-most

use Rattle.totals_spec.proofs.ten_bytes.WrittenOut.{pseudo-denormal}
use Rattle.promises.proofs.eighty_bits.pseudo_denormal.Goals as goal

pub returns : goal.returns
returns c = pseudo-denormal

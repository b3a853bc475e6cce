use Rattle.std.proofs.Common.{arith}
use Rattle.limbs.proofs.Length.{word-bits}
use Rattle.limbs.proofs.pair.bit_length.Goals as goal

pub returns : goal.returns
returns c = omega (arith, word-bits 128 c.args.number c.ranges.number.fits)

use Rattle.std.proofs.Common.{arith}
use Rattle.limbs.proofs.Length.{word-bits}
use Rattle.limbs.proofs.word.bit_length.Goals as goal

pub returns : goal.returns
returns c = omega (arith, word-bits 64 c.args.word c.ranges.word.fits)

-- The length of a significand of two words.
use Rattle.std.proofs.Common.{arith}
use lib.Ieee.Digits.{size-le}
use Rattle.exact.proofs.Unrounded.length.Goals as goal

pub returns : goal.returns
returns c =
    let few = size-le c.args.self.significand 128 (omega arith) in
    (c.bit_length.ensures, omega (arith, few, c.bit_length.ensures))

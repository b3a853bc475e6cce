use lib.Ieee.Digits.{size-le}
use Rattle.limbs.specs.Value.{value}
use Rattle.limbs.proofs.Words.{words, value-lt}
use Rattle.window.proofs.width.Goals as goal

pub returns : goal.returns
returns c =
    let n = c.bit_length.ensures in
    (n, rw n (size-le (value c.args.magnitude) 768 (value-lt (words 12 c.args.magnitude _ c.well_formed.0))))

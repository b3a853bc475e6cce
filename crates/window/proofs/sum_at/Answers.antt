-- The window's highest bit says that S is negative.
use Rattle.std.proofs.Common.{refl}
use Rattle.limbs.specs.Value.{value}
use Rattle.limbs.proofs.Words.{words, value-lt}
use Rattle.window.proofs.Numbers.{signed-at}
use Rattle.window.proofs.sum_at.Goals as goal

pub returns-then-negative-clause-sum : goal.returns-then-negative-clause-sum
returns-then-negative-clause-sum c =
    let small = value-lt (words 12 c.args.total _ c.well_formed.1.0) in
    signed-at (value c.args.total) _ _ small c.bit-negative.ensures (rw c.if-negative.true c.negate.ensures)

pub returns-else-negative-clause-sum : goal.returns-else-negative-clause-sum
returns-else-negative-clause-sum c =
    let small = value-lt (words 12 c.args.total _ c.well_formed.1.0) in
    signed-at (value c.args.total) _ _ small c.bit-negative.ensures (rw c.if-negative.false refl)

use Rattle.std.proofs.Common.{sym, lt_of_lt_of_le, pow_mono}
use native.Mathlib.Nat.{div-eq_of_lt}
use Rattle.limbs.proofs.pair.shr.Goals as goal

pub returns-then-count-ge128 : goal.returns-then-count-ge128
returns-then-count-ge128 c = sym (div-eq_of_lt (lt_of_lt_of_le c.ranges.number.fits (pow_mono c.if-count-ge128.true)))

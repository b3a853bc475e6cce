use Rattle.std.proofs.Common.{sym, lt_of_lt_of_le, mod-eq_of_lt, pow_mono}
use Rattle.limbs.proofs.Masks.{masked}
use Rattle.limbs.proofs.word.low_bits.Goals as goal

pub returns-then-count-ge64 : goal.returns-then-count-ge64
returns-then-count-ge64 c = sym (mod-eq_of_lt (lt_of_lt_of_le c.ranges.word.fits (pow_mono c.if-count-ge64.true)))

pub returns-else-count-ge64 : goal.returns-else-count-ge64
returns-else-count-ge64 c = masked 64 c.args.word c.args.count c.if-count-ge64.false

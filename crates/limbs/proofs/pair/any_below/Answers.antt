use Rattle.std.proofs.Common.{ℕ, not, nat_eq, sym, ap, lt_of_lt_of_le, mod-eq_of_lt, pow_mono}
use Rattle.limbs.proofs.Masks.{masked}
use Rattle.limbs.proofs.pair.any_below.Goals as goal

pub returns-then-count-ge128 : goal.returns-then-count-ge128
returns-then-count-ge128 c =
    ap (λ (x : ℕ). not (nat_eq x 0)) (sym (mod-eq_of_lt (lt_of_lt_of_le c.ranges.number.fits (pow_mono c.if-count-ge128.true))))

pub returns-else-count-ge128 : goal.returns-else-count-ge128
returns-else-count-ge128 c = ap (λ (x : ℕ). not (nat_eq x 0)) (masked 128 c.args.number c.args.count c.if-count-ge128.false)

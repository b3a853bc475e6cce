-- `window-bits`: of every bit of a window, the word and the place that `split` finds are those of a
-- division by 64.
use Rattle.std.proofs.Common.{refl, mod-lt, div-add-mod', arith}
use Rattle.limbs.specs.Splits.{Window-bits}

pub window-bits : Window-bits
window-bits i h = record {
  quotient = refl;
  remainder = omega (arith, div-add-mod' i 64);
  word = omega (arith, div-add-mod' i 64);
  place = omega (arith, div-add-mod' i 64, mod-lt i {m = 64} (omega arith));
}

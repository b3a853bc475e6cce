-- The lowest bits of a number, by a mask.
use Rattle.std.proofs.Common.{◌≡◌, ℕ, ◌-◌, ◌*◌, ◌%◌, ◌^◌, ◌<◌, bit_and, ap, ◌∙◌, mod-eq_of_lt, one-mul}
use lib.Pow.{pow-lt}
use lib.Bits.{and_mask}

-- 1 shifted by less than the width w, less 1
pub masked : (w a k : ℕ) → k < w → bit_and a (1 * 2 ^ k % 2 ^ w - 1) ≡ a % 2 ^ k
masked w a k h = ap (λ (x : ℕ). bit_and a (x % 2 ^ w - 1)) (one-mul (2 ^ k)) ∙ ap (λ (x : ℕ). bit_and a (x - 1)) (mod-eq_of_lt (pow-lt h)) ∙ and_mask a k

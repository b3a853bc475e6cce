-- A word, and two words, with each bit turned by a mask.
use Rattle.std.proofs.Common.{◌≡◌, ℕ, ◌+◌, ◌-◌, ◌*◌, ◌/◌, ◌%◌, ◌^◌, ◌<◌, Bool, true, false, cond, ap, ◌∙◌, mod-eq_of_lt, arith}
use lib.Bits.{bit_xor, bit_and, xor_zero_r, xor_add_and, and_mask}
use Rattle.limbs.specs.Flipped.{flip, flip_pair}

xor_ones : (w : ℕ) → w < 2 ^ 64 → bit_xor w 18446744073709551615 ≡ 18446744073709551615 - w
xor_ones w h = less (bit_xor w 18446744073709551615) (bit_and w 18446744073709551615) (xor_add_and w 18446744073709551615) (and_mask w 64 ∙ mod-eq_of_lt h)
  where
    less : (x a : ℕ) → x + a * 2 ≡ w + 18446744073709551615 → a ≡ w → x ≡ 18446744073709551615 - w
    less x a e f = omega arith

-- a word with each bit turned by a mask: 0 less 0, or 0 less 1
pub masked : (neg : Bool) (w b m : ℕ) → b ≡ cond neg 1 0 → (m + b) % 2 ^ 64 ≡ 0 → m < 2 ^ 64 → w < 2 ^ 64 → bit_xor w m ≡ flip neg w
masked false w b m e f g h = ap (bit_xor w) (none m b e f g) ∙ xor_zero_r w
  where
    none : (m b : ℕ) → b ≡ 0 → (m + b) % 2 ^ 64 ≡ 0 → m < 2 ^ 64 → m ≡ 0
    none m b e f g = omega arith
masked true w b m e f g h = ap (bit_xor w) (all m b e f g) ∙ xor_ones w h
  where
    all : (m b : ℕ) → b ≡ 1 → (m + b) % 2 ^ 64 ≡ 0 → m < 2 ^ 64 → m ≡ 18446744073709551615
    all m b e f g = omega arith

xor-pair : (w : ℕ) → w < 2 ^ 128 → bit_xor w 340282366920938463463374607431768211455 ≡ 340282366920938463463374607431768211455 - w
xor-pair w h = less (bit_xor w 340282366920938463463374607431768211455) (bit_and w 340282366920938463463374607431768211455) (xor_add_and w 340282366920938463463374607431768211455) (and_mask w 128 ∙ mod-eq_of_lt h)
  where
    less : (x a : ℕ) → x + a * 2 ≡ w + 340282366920938463463374607431768211455 → a ≡ w → x ≡ 340282366920938463463374607431768211455 - w
    less x a e f = omega arith

-- and two words
pub masked-pair : (neg : Bool) (w b m : ℕ) → b ≡ cond neg 1 0 → (m + b) % 2 ^ 128 ≡ 0 → m < 2 ^ 128 → w < 2 ^ 128 → bit_xor w m ≡ flip_pair neg w
masked-pair false w b m e f g h = ap (bit_xor w) (none m b e f g) ∙ xor_zero_r w
  where
    none : (m b : ℕ) → b ≡ 0 → (m + b) % 2 ^ 128 ≡ 0 → m < 2 ^ 128 → m ≡ 0
    none m b e f g = omega arith
masked-pair true w b m e f g h = ap (bit_xor w) (all m b e f g) ∙ xor-pair w h
  where
    all : (m b : ℕ) → b ≡ 1 → (m + b) % 2 ^ 128 ≡ 0 → m < 2 ^ 128 → m ≡ 340282366920938463463374607431768211455
    all m b e f g = omega arith

-- the words of what is turned are the words, turned
pub low-turned : (neg : Bool) (t f low : ℕ) → t < 2 ^ 128 → f ≡ flip_pair neg t → low ≡ f % 2 ^ 64 → low ≡ flip neg (t % 2 ^ 64)
low-turned false t f low h e g = omega (arith, e, g)
low-turned true t f low h e g = omega (arith, h, e, g)

pub high-turned : (neg : Bool) (t f high : ℕ) → t < 2 ^ 128 → f ≡ flip_pair neg t → high ≡ f / 2 ^ 64 → high ≡ flip neg (t / 2 ^ 64)
high-turned false t f high h e g = omega (arith, e, g)
high-turned true t f high h e g = omega (arith, h, e, g)

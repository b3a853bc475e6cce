-- One addend more, and where its words lie.
use Rattle.std.proofs.Common.{◌≡◌, ℕ, ◌+◌, ◌*◌, ◌/◌, ◌%◌, ◌^◌, ◌<◌, Bool, true, false, cond, refl, ap, sym, ◌∙◌, arith, add-mul, mul_assoc, pow-add}
use native.Mathlib.Nat.{mul-lt-mul_of_pos_right, mul-le-mul_left, lt_of_lt_of_le, le_trans, le_of_lt, mod-eq_of_lt}
use lib.Pow.{pow_pos, pow-lt}
use lib.Dec.{lit≤}
use Rattle.limbs.specs.declared.run.Addend.{Addend}
use Rattle.limbs.specs.Moved.{Moved}
use Rattle.limbs.specs.Gathered.{Gathered, added, taken}

-- a significand shifted by less than a word, in its word
pub placed : (m x shift word bit : ℕ) → word ≡ shift / 64 → bit ≡ shift % 64 → x ≡ m * 2 ^ bit + 0 → x * 2 ^ (64 * word) ≡ m * 2 ^ shift
placed m x shift word bit w b e =
    ap (λ (n : ℕ). n * 2 ^ (64 * word)) (e ∙ plain (m * 2 ^ bit))
    ∙ mul_assoc m (2 ^ bit) (2 ^ (64 * word))
    ∙ ap (λ (n : ℕ). m * n) (sym (pow-add 2 bit (64 * word)) ∙ ap (λ (n : ℕ). 2 ^ n) whole)
  where
    plain : (n : ℕ) → n + 0 ≡ n
    plain n = omega arith

    whole : bit + 64 * word ≡ shift
    whole = omega (arith, w, b)

pub gathered-none : (n v : ℕ) → Gathered n v v 0 0
gathered-none n v = record { over = 0; under = 0; is = refl }

pub gathered-more : (a : Addend) (n old mid new p m p' m' : ℕ) → Moved a.negative n mid new (a.significand * 2 ^ a.shift) → Gathered n old mid p m
    → p' ≡ p + added a → m' ≡ m + taken a → Gathered n old new p' m'
gathered-more a n old mid new p m p' m' r g = go a.negative r
  where
    x : ℕ
    x = a.significand * 2 ^ a.shift

    go : (s : Bool) → Moved s n mid new (a.significand * 2 ^ a.shift) → p' ≡ p + cond s 0 (a.significand * 2 ^ a.shift)
        → m' ≡ m + cond s (a.significand * 2 ^ a.shift) 0 → Gathered n old new p' m'
    go false r e f = record { over = g.over + r.over; under = g.under; is = omega (arith, r.is, g.is, e, f, add-mul g.over r.over (2 ^ (64 * n))) }
    go true r e f = record { over = g.over; under = g.under + r.over; is = omega (arith, r.is, g.is, e, f, add-mul g.under r.over (2 ^ (64 * n))) }

-- a word shifted by less than a word is a number of two words
pub shifted : (m f b : ℕ) → m < 18446744073709551616 → b < 64 → f ≡ m → f * 2 ^ b % 2 ^ 128 ≡ m * 2 ^ b + 0
shifted m f b h k e = ap (λ (n : ℕ). n * 2 ^ b % 2 ^ 128) e ∙ mod-eq_of_lt fits ∙ plain (m * 2 ^ b)
  where
    plain : (n : ℕ) → n ≡ n + 0
    plain n = omega arith

    fits : m * 2 ^ b < 2 ^ 128
    fits = lt_of_lt_of_le (mul-lt-mul_of_pos_right h (pow_pos b)) (le_trans (mul-le-mul_left 18446744073709551616 (le_of_lt (pow-lt k))) (lit≤ tt))

-- The complement of a window, and a difference as a sum with it.
use Rattle.std.proofs.Common.{◌≡◌, ℕ, zero, suc, ◌+◌, ◌-◌, ◌*◌, ◌%◌, ◌^◌, ◌<◌, List, length, get_or, ap, ◌∙◌, mul-suc, mod-eq_of_lt, pow-add, arith}
use Rattle.limbs.specs.Value.{Words, value, plus, minus}
use Rattle.limbs.proofs.Words.{low, low-suc, low-zero, all_low}

-- of its first words: each word with its complement is 2 ^ 64 less one
low_complement : (a r : List ℕ) (n : ℕ) → ((k : ℕ) → k < n → get_or r k 0 + get_or a k 0 ≡ 18446744073709551615) → low r n + low a n + 1 ≡ 2 ^ (64 * n)
low_complement a r zero h = omega (arith, low-zero a, low-zero r)
low_complement a r (suc n) h =
    step (low r n) (low a n) (get_or r n 0) (get_or a n 0) (2 ^ (64 * n)) (2 ^ (64 * suc n)) (h n (omega arith))
    (low_complement a r n (λ k b. h k (omega arith))) (ap (λ (x : ℕ). 2 ^ x) (mul-suc 64 n) ∙ pow-add 2 (64 * n) 64) (low-suc r n) (low-suc a n)
  where
    step : (x y v w P Q : ℕ) → v + w ≡ 18446744073709551615 → x + y + 1 ≡ P → Q ≡ P * 2 ^ 64 → {s t : ℕ} → s ≡ x + v * P → t ≡ y + w * P
        → s + t + 1 ≡ Q
    step x y v w P Q e f g i j = omega (arith, ap (λ (z : ℕ). z * P) e)

pub complemented : (a r : List ℕ) → Words 12 a → length r ≡ 12 → ((k : ℕ) → k < 12 → get_or r k 0 ≡ 18446744073709551615 - get_or a k 0)
    → value r ≡ 2 ^ 768 - 1 - value a
complemented a r w long h =
    omega (arith, low_complement a r 12 (λ k b. omega (arith, h k b, w.fit k)), all_low 12 a w.long, all_low 12 r long)

-- a and what b lacks, and 1
pub taken : (a : ℕ) {b c : ℕ} → b < 2 ^ 768 → c ≡ 2 ^ 768 - 1 - b → plus a (c + 1) ≡ minus a b
taken a {b} {c} h e = ap (λ (x : ℕ). (a + x) % 2 ^ 768) (omega (arith, mod-eq_of_lt h))

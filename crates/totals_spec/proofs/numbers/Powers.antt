-- Powers of two, and the digits of k × 2^l.
use mathlib.Core.Path.{◌≡◌, ap, ◌∙◌, sym, subst, refl}
use Prim.Native.Nat.{ℕ, ◌-◌, ◌*◌, ◌^◌, ◌≤◌, ◌+◌, ◌/◌, zero, suc, ◌<◌}
use native.Mathlib.Omega.{arith}
use lib.Pow.{pow-add, shl-shr, pow_pos, pow_mono, shl_lt}
use mathlib.Core.Bool.{Bool, true, false, not}
use lib.Dec.{T, eqb, eqb→eq}
use borrow.Author.Tests.{eq-eqb, ne_eqb}
use native.Mathlib.Nat.{mul-le-mul_right, suc-mul, add-zero, lt_of_lt_of_le, not-le_of_lt}
use native.Mathlib.Nat.{lt_of_not-le}
use lib.Ieee.{size}
use lib.Ieee.Digits.{size-lt, size_reaches}
use Rattle.totals_spec.proofs.numbers.Bits.{pow-split, size_is, size-pos, size_top}

pub pow-next : (q : ℕ) → 1 ≤ q → 2 ^ q ≡ 2 * 2 ^ (q - 1)
pow-next q h = pow-split (q - 1) q (omega arith) ∙ ap (λ (k : ℕ). 2 ^ k * 2 ^ (q - 1)) one
  where
    one : q - (q - 1) ≡ 1
    one = omega arith

pub pow-join : (a b c : ℕ) → a + b ≡ c → 2 ^ a * 2 ^ b ≡ 2 ^ c
pow-join a b c h = sym (pow-add 2 a b) ∙ ap (λ (k : ℕ). 2 ^ k) h

pub eqb-scaled : (a b n : ℕ) → eqb a b ≡ eqb (a * 2 ^ n) (b * 2 ^ n)
eqb-scaled a b n = go (eqb a b) (eqb→eq a b) no
  where
    no : T (not (eqb a b)) → a ≡ b → ⊥
    no t e = subst (λ (x : Bool). T (not x)) (eq-eqb a b e) t

    back : a * 2 ^ n ≡ b * 2 ^ n → a ≡ b
    back e = sym (shl-shr a n) ∙ ap (λ (x : ℕ). x / 2 ^ n) e ∙ shl-shr b n

    go : (r : Bool) → (T r → a ≡ b) → (T (not r) → a ≡ b → ⊥) → r ≡ eqb (a * 2 ^ n) (b * 2 ^ n)
    go true h g = sym (eq-eqb (a * 2 ^ n) (b * 2 ^ n) (ap (λ (x : ℕ). x * 2 ^ n) (h tt)))
    go false h g = sym (ne_eqb (a * 2 ^ n) (b * 2 ^ n) (λ (e : a * 2 ^ n ≡ b * 2 ^ n). g tt (back e)))

-- ---- v × 2^a and less than 2^a more

pub size-over : (v a e : ℕ) → e < 2 ^ a → 0 < v → size (v * 2 ^ a + e) ≡ a + size v
size-over v a e e1 h = go (size v) refl (size-pos v h)
  where
    go : (z : ℕ) → size v ≡ z → 0 < z → size (v * 2 ^ a + e) ≡ a + z
    go zero g k = absurd (omega (arith, k))
    go (suc z) g k = size_is (v * 2 ^ a + e) (z + a) above under ∙ shift
      where
        shift : suc (z + a) ≡ a + suc z
        shift = omega arith

        lo : 2 ^ (z + a) ≤ v * 2 ^ a
        lo = subst (λ (x : ℕ). x ≤ v * 2 ^ a) (sym (pow-add 2 z a)) (mul-le-mul_right (2 ^ a) (size_top v z g))

        under : 2 ^ (z + a) ≤ v * 2 ^ a + e
        under = omega (arith, lo)

        hi : suc v * 2 ^ a ≤ 2 ^ suc z * 2 ^ a
        hi = mul-le-mul_right (2 ^ a) (subst (λ (x : ℕ). v < 2 ^ x) g (size-lt v))

        above : v * 2 ^ a + e < 2 ^ suc (z + a)
        above = omega (arith, hi, pow-join (suc z) a (suc (z + a)) (omega arith), e1, suc-mul v (2 ^ a))

pub size-scaled : (k l : ℕ) → 0 < k → size (k * 2 ^ l) ≡ l + size k
size-scaled k l h = ap size (sym (add-zero (k * 2 ^ l))) ∙ size-over k l 0 (pow_pos l) h

pub scaled-lt : (k l q n : ℕ) → k < 2 ^ q → q + l ≤ n → k * 2 ^ l < 2 ^ n
scaled-lt k l q n h le = lt_of_lt_of_le (shl_lt q l h) (pow_mono le)

-- ---- numbers of q digits

pub size_above : (v p : ℕ) → 2 ^ p ≤ v → p < size v
size_above v p h = lt_of_not-le (λ (k : size v ≤ p). not-le_of_lt (lt_of_lt_of_le (size-lt v) (pow_mono k)) h)

pub size_exact : (k q : ℕ) → 1 ≤ q → 2 ^ (q - 1) ≤ k → k < 2 ^ q → size k ≡ q
size_exact k q q0 lo hi = size_is k (q - 1) (rw next hi) lo ∙ next
  where
    next : suc (q - 1) ≡ q
    next = omega arith

module _ (k q : ℕ) (q0 : 1 ≤ q) (sz : size k ≡ q) where
  pub digits_lt : k < 2 ^ q
  digits_lt = subst (λ (n : ℕ). k < 2 ^ n) sz (size-lt k)

  pub digits-ge : 2 ^ (q - 1) ≤ k
  digits-ge = size_reaches k (q - 1) (rw sz (omega arith))

  pub digits-pos : 0 < k
  digits-pos = lt_of_lt_of_le (pow_pos (q - 1)) digits-ge

-- q ones and one more are one half of it, one position higher
pub carried : (k q n : ℕ) → 1 ≤ q → k < 2 ^ q → 2 ^ q - 1 ≤ k → 2 ^ (q - 1) * 2 ^ (n + 1) ≡ (k + 1) * 2 ^ n
carried k q n q0 hi lo =
    pow-join (q - 1) (n + 1) (q + n) (omega arith) ∙ sym (pow-join q n (q + n) refl) ∙ ap (λ (x : ℕ). x * 2 ^ n) full
  where
    full : 2 ^ q ≡ k + 1
    full = omega (arith, hi, lo)

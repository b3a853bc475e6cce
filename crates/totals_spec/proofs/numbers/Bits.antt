-- Facts about powers of two, bit lengths and lowest set bits that the theorems share.
use mathlib.Core.Path.{◌≡◌, sym, subst, ap, ◌∙◌, refl, ap₂}
use mathlib.Core.Bool.{Bool, true}
use lib.Dec.{T}
use Prim.Native.Nat.{ℕ, ◌+◌, ◌-◌, ◌*◌, ◌^◌, ◌≤◌, suc, ◌<◌, zero, ◌/◌, ◌%◌}
use native.Mathlib.Omega.{arith}
use lib.Pow.{pow-add, pow_mono, pow_pos}
use native.Mathlib.Nat.{le_antisymm, lt_of_lt_of_le, lt_of_not-le, not-le_of_lt, le_refl, mul-one}
use native.Mathlib.Nat.{div-one, mul_left_comm, div-div-eq-div-mul, pow-succ', mul_assoc}
use native.Mathlib.Nat.{mul-mod_left, le_trans, one-mul, zero-mul, mul-le-mul_right, mul-pos}
use native.Mathlib.Nat.{add-zero, add-suc}
use lib.Ieee.{size}
use lib.Ieee.Digits.{size-lt, size-le, size_reaches}
use lib.Count.{count_trailing_zeros, under}
use Rattle.totals_spec.specs.chain.Limit.{low_bit}

-- ---- what a test that passed says

pub T_of : {b : Bool} → b ≡ true → T b
T_of e = subst T (sym e) tt

-- ---- powers

pub pow-split : (i j : ℕ) → i ≤ j → 2 ^ j ≡ 2 ^ (j - i) * 2 ^ i
pow-split i j h = ap (λ (x : ℕ). 2 ^ x) e ∙ pow-add 2 (j - i) i
  where
    e : j ≡ j - i + i
    e = omega arith

-- ---- bit lengths: `size n` is the one z with n < 2^z, and 2^(z − 1) ≤ n where n is not 0

pub size_is : (n z : ℕ) → n < 2 ^ suc z → 2 ^ z ≤ n → size n ≡ suc z
size_is n z h k = le_antisymm (size-le n (suc z) h) (lt_of_not-le (λ (g : size n ≤ z). not-le_of_lt (lt_of_lt_of_le (size-lt n) (pow_mono g)) k))

pub size-pos : (n : ℕ) → 0 < n → 0 < size n
size-pos n h = go (size n) refl
  where
    go : (z : ℕ) → size n ≡ z → 0 < z
    go zero e =
        let k : n < 2 ^ zero = rw e at (size-lt n) in
        absurd (not-le_of_lt k h)
    go (suc z) e = omega arith

-- a number of size z reaches 2^(z − 1)
pub size_top : (n z : ℕ) → size n ≡ suc z → 2 ^ z ≤ n
size_top n z e = size_reaches n z (rw e (le_refl (suc z)))

pub size_none : size 0 ≡ 0
size_none = omega (arith, size-le 0 0 (omega arith))

pub size-one-less : (n : ℕ) → 0 < n → 2 ^ (size n - 1) ≤ n
size-one-less n h = size_reaches n (size n - 1) (omega (arith, size-pos n h))

-- ---- the lowest set bit

whole : (n : ℕ) → n / 1 * 1 ≡ n
whole n = mul-one (n / 1) ∙ div-one n

twice_half : (n : ℕ) → n % 2 ≡ 0 → 2 * (n / 2) ≡ n
twice_half n e = omega arith

zeros-divide : (d n : ℕ) → n / 2 ^ count_trailing_zeros d n * 2 ^ count_trailing_zeros d n ≡ n
unfolding count_trailing_zeros
zeros-divide zero n = whole n
zeros-divide (suc d) n = go (n % 2) refl (zeros-divide d (n / 2))
  where
    go : (r : ℕ) → n % 2 ≡ r → n / 2 / 2 ^ count_trailing_zeros d (n / 2) * 2 ^ count_trailing_zeros d (n / 2) ≡ n / 2
        → n / 2 ^ under r (count_trailing_zeros d (n / 2)) * 2 ^ under r (count_trailing_zeros d (n / 2)) ≡ n
    go zero e ih =
        let t = count_trailing_zeros d (n / 2) in
        ap (λ (x : ℕ). n / x * x) (pow-succ' 2 t)
        ∙ ap (λ (x : ℕ). x * (2 * 2 ^ t)) (sym (div-div-eq-div-mul n 2 (2 ^ t)))
        ∙ mul_left_comm (n / 2 / 2 ^ t) 2 (2 ^ t)
        ∙ ap (λ (x : ℕ). 2 * x) ih
        ∙ twice_half n e
    go (suc r) e ih = whole n

-- the bits below the lowest set bit are 0
pub low-divides : (m : ℕ) → m / 2 ^ low_bit m * 2 ^ low_bit m ≡ m
unfolding low_bit
low-divides m = zeros-divide (size m) m

-- a multiple of 2^j is one of 2^w for w ≤ j, and is not below 2^w unless it is 0
pub multiple-mod : (m q j w : ℕ) → m ≡ q * 2 ^ j → w ≤ j → m % 2 ^ w ≡ 0
multiple-mod m q j w e h =
    ap (λ (x : ℕ). x % 2 ^ w) (e ∙ ap (λ (x : ℕ). q * x) (pow-split w j h) ∙ sym (mul_assoc q (2 ^ (j - w)) (2 ^ w))) ∙ mul-mod_left (q * 2 ^ (j - w)) (2 ^ w)

pub multiple-ge : (m q j w : ℕ) → m ≡ q * 2 ^ j → w ≤ j → 0 < m → 2 ^ w ≤ m
multiple-ge m zero j w e h k = absurd (not-le_of_lt (subst (λ (x : ℕ). 0 < x) (e ∙ zero-mul (2 ^ j)) k) (le_refl 0))
multiple-ge m (suc q) j w e h k =
    le_trans (pow_mono h)
    (le_trans (subst (λ (x : ℕ). x ≤ suc q * 2 ^ j) (one-mul (2 ^ j)) (mul-le-mul_right (2 ^ j) one))
    (subst (λ (x : ℕ). suc q * 2 ^ j ≤ x) (sym e) (le_refl (suc q * 2 ^ j))))
  where
    one : 1 ≤ suc q
    one = omega arith

-- and that bit is set
zeros-odd : (d n : ℕ) → 0 < n → n < 2 ^ d → n / 2 ^ count_trailing_zeros d n % 2 ≡ 1
unfolding count_trailing_zeros
zeros-odd zero n h k = absurd (not-le_of_lt k h)
zeros-odd (suc d) n h k = go (n % 2) refl (zeros-odd d (n / 2))
  where
    go : (r : ℕ) → n % 2 ≡ r → (0 < n / 2 → n / 2 < 2 ^ d → n / 2 / 2 ^ count_trailing_zeros d (n / 2) % 2 ≡ 1)
        → n / 2 ^ under r (count_trailing_zeros d (n / 2)) % 2 ≡ 1
    go zero e ih =
        ap (λ (x : ℕ). n / x % 2) (pow-succ' 2 (count_trailing_zeros d (n / 2)))
        ∙ ap (λ (x : ℕ). x % 2) (sym (div-div-eq-div-mul n 2 (2 ^ count_trailing_zeros d (n / 2))))
        ∙ ih (omega arith) (omega (arith, pow-succ' 2 d))
    go (suc r) e ih = ap (λ (x : ℕ). x % 2) (div-one n) ∙ one
      where
        one : n % 2 ≡ 1
        one = omega arith

pub low-set : (m : ℕ) → 0 < m → m / 2 ^ low_bit m % 2 ≡ 1
unfolding low_bit
low-set m h = zeros-odd (size m) m h (size-lt m)

-- among however many digits a number's lowest set bit is looked for
pub zeros-same : (d e n : ℕ) → 0 < n → n < 2 ^ d → n < 2 ^ e → count_trailing_zeros d n ≡ count_trailing_zeros e n
unfolding count_trailing_zeros
zeros-same zero e n h k j = absurd (not-le_of_lt k h)
zeros-same (suc d) zero n h k j = absurd (not-le_of_lt j h)
zeros-same (suc d) (suc e) n h k j = go (n % 2) refl (zeros-same d e (n / 2))
  where
    go : (r : ℕ) → n % 2 ≡ r → (0 < n / 2 → n / 2 < 2 ^ d → n / 2 < 2 ^ e → count_trailing_zeros d (n / 2) ≡ count_trailing_zeros e (n / 2))
        → under r (count_trailing_zeros d (n / 2)) ≡ under r (count_trailing_zeros e (n / 2))
    go zero z ih = ap suc (ih (omega arith) (omega (arith, pow-succ' 2 d)) (omega (arith, pow-succ' 2 e)))
    go (suc r) z ih = refl

-- of twice a number, and of m × 2^k
low_twice : (n : ℕ) → 0 < n → low_bit (2 * n) ≡ suc (low_bit n)
unfolding low_bit count_trailing_zeros
low_twice n p =
    zeros-same (size (2 * n)) (suc (size n)) (2 * n) (omega arith) (size-lt (2 * n)) (omega (arith, size-lt n, pow-succ' 2 (size n)))
    ∙ ap₂ (λ (r x : ℕ). under r (count_trailing_zeros (size n) x)) even half
  where
    even : 2 * n % 2 ≡ 0
    even = omega arith

    half : 2 * n / 2 ≡ n
    half = omega arith

pub low-raised : (m k : ℕ) → 0 < m → low_bit (m * 2 ^ k) ≡ low_bit m + k
low-raised m zero h = ap low_bit (mul-one m) ∙ sym (add-zero (low_bit m))
low-raised m (suc k) h = ap low_bit twice ∙ low_twice (m * 2 ^ k) (mul-pos h (pow_pos k)) ∙ ap suc (low-raised m k h) ∙ sym (add-suc (low_bit m) k)
  where
    twice : m * 2 ^ suc k ≡ 2 * (m * 2 ^ k)
    twice = ap (λ (x : ℕ). m * x) (pow-succ' 2 k) ∙ mul_left_comm m 2 (2 ^ k)

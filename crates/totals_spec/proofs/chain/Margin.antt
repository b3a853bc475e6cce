-- The arithmetic of one pass, without signs. `hi` and `lo` are the two sides of the exact sum, `hi`
-- that of S's sign; S has the magnitude k, and what the cut drops from the two sides is RH and RL:
-- hi + RL = lo + k × 2^w + RH. Each term drops less than one unit of 2^w, and there are at most
-- 2^28 terms.
use Prim.Native.Nat.{ℕ, ◌+◌, ◌<◌, ◌-◌, ◌*◌, ◌/◌, ◌%◌, ◌^◌, suc, ◌≤◌}
use mathlib.Core.Path.{◌≡◌, sym, ap, ◌∙◌, refl, subst}
use native.Mathlib.Nat.{mul_assoc, mul_comm, add-mul, div-add-mod', mul-le-mul_right}
use native.Mathlib.Nat.{mul-lt-mul_of_pos_right, suc-mul, mod-lt, lt_of_lt_of_le, pow-succ'}
use native.Mathlib.Nat.{lt_of_mul-lt-mul_right}
use lib.Pow.{pow-add, pow_pos, pow_mono}
use native.Mathlib.Omega.{arith}

-- within K of each other
abbrev pub Close : ℕ → ℕ → ℕ → Type 0
Close x y k = (x < y + k) × (y < x + k)

pub close-swap : (x y k : ℕ) → Close x y k → Close y x k
close-swap x y k h = (h.1, h.0)

-- the most terms that these laws speak of: as many as refusal 6 lets pass (`limit`)
abbrev pub terms-max : ℕ
terms-max = 268435456

-- k × 2^w by the quotient and the remainder of k by 2^r
pub parts : (w k r : ℕ) → k * 2 ^ w ≡ k / 2 ^ r * 2 ^ (w + r) + k % 2 ^ r * 2 ^ w
parts w k r =
    ap (λ (x : ℕ). x * 2 ^ w) (sym (div-add-mod' k (2 ^ r))) ∙ add-mul (k / 2 ^ r * 2 ^ r) (k % 2 ^ r) (2 ^ w)
    ∙ ap (λ (x : ℕ). x + k % 2 ^ r * 2 ^ w)
    (mul_assoc (k / 2 ^ r) (2 ^ r) (2 ^ w) ∙ ap (λ (x : ℕ). k / 2 ^ r * x) (mul_comm (2 ^ r) (2 ^ w) ∙ sym (pow-add 2 w r)))

pub unit-parts : (w r : ℕ) → 2 ^ r * 2 ^ w ≡ 2 ^ (w + r)
unit-parts w r = mul_comm (2 ^ r) (2 ^ w) ∙ sym (pow-add 2 w r)

-- the exact sum lies between two neighbours
pub record Inside (hi lo j q : ℕ) : Type 0 where
  pub e : ℕ
  pub sum : hi ≡ lo + (j * q + e)
  pub pos : 0 < e
  pub small : e < q

module _ (w k hi lo RH RL : ℕ) (H : hi + RL ≡ lo + k * 2 ^ w + RH) where
  -- d between 2^65 and 2^r − 2^65: what was dropped does not move the sum past a multiple of 2^r
  -- units
  pub final : (r : ℕ) → RH + RL ≤ terms-max * 2 ^ w → 2 ^ 65 ≤ k % 2 ^ r → k % 2 ^ r ≤ 2 ^ r - 2 ^ 65 → Inside hi lo (k / 2 ^ r) (2 ^ (w + r))
  final r R l u = record {
    e = k % 2 ^ r * 2 ^ w + RH - RL;
    sum = omega (arith, parts w k r, least, R, H, pow_pos w);
    pos = omega (arith, least, R, pow_pos w);
    small = omega (arith, most, R, pow_pos w);
  }
    where
      room-above : k % 2 ^ r + 2 ^ 65 ≤ 2 ^ r
      room-above = omega (arith, l, u)

      least : 2 ^ 65 * 2 ^ w ≤ k % 2 ^ r * 2 ^ w
      least = mul-le-mul_right (2 ^ w) l

      most : k % 2 ^ r * 2 ^ w + 2 ^ 65 * 2 ^ w ≤ 2 ^ (w + r)
      most =
          subst (λ (x : ℕ). k % 2 ^ r * 2 ^ w + 2 ^ 65 * 2 ^ w ≤ x) (unit-parts w r)
          (subst (λ (x : ℕ). x ≤ 2 ^ r * 2 ^ w) (add-mul (k % 2 ^ r) (2 ^ 65) (2 ^ w)) (mul-le-mul_right (2 ^ w) room-above))

  -- d below 2^65: the sum is near the multiple below
  pub near-low : (r : ℕ) → RH + RL ≤ terms-max * 2 ^ w → k % 2 ^ r < 2 ^ 65 → Close hi (lo + k / 2 ^ r * 2 ^ (w + r)) (3 * (2 ^ 64 * 2 ^ w))
  near-low r R u = (omega (arith, parts w k r, most, R, H, pow_pos w), omega (arith, parts w k r, R, H, pow_pos w))
    where
      most : k % 2 ^ r * 2 ^ w < 2 ^ 65 * 2 ^ w
      most = mul-lt-mul_of_pos_right u (pow_pos w)

  -- d above 2^r − 2^65: the sum is near the multiple above
  pub near-high : (r : ℕ) → RH + RL ≤ terms-max * 2 ^ w → 2 ^ r - 2 ^ 65 < k % 2 ^ r → Close hi (lo + suc (k / 2 ^ r) * 2 ^ (w + r)) (3 * (2 ^ 64 * 2 ^ w))
  near-high r R u = (
    omega (arith, parts w k r, less, R, H, pow_pos w, suc-mul (k / 2 ^ r) (2 ^ (w + r))),
    omega (arith, parts w k r, most, R, H, pow_pos w, suc-mul (k / 2 ^ r) (2 ^ (w + r))),
  )
    where
      under : 2 ^ r ≤ k % 2 ^ r + 2 ^ 65
      under = omega (arith, u)

      most : 2 ^ (w + r) ≤ k % 2 ^ r * 2 ^ w + 2 ^ 65 * 2 ^ w
      most =
          subst (λ (x : ℕ). x ≤ k % 2 ^ r * 2 ^ w + 2 ^ 65 * 2 ^ w) (unit-parts w r)
          (subst (λ (x : ℕ). 2 ^ r * 2 ^ w ≤ x) (add-mul (k % 2 ^ r) (2 ^ 65) (2 ^ w)) (mul-le-mul_right (2 ^ w) under))

      less : k % 2 ^ r * 2 ^ w < 2 ^ (w + r)
      less = subst (λ (x : ℕ). k % 2 ^ r * 2 ^ w < x) (unit-parts w r) (mul-lt-mul_of_pos_right (mod-lt k (pow_pos r)) (pow_pos w))

  -- where the chain goes on at m − 766, the sum is within 3 × 2^(m − 1)
  pub next-close : (n lost m : ℕ) → k < 2 ^ n → RH + RL ≤ terms-max * (2 ^ lost - 1) → w + n ≤ suc m → lost + 64 ≤ suc m → Close hi lo (3 * 2 ^ m)
  next-close n lost m kn R l u = (omega (arith, top, rest, H, R, pow_pos m), omega (arith, rest, H, R, pow_pos m))
    where
      top : k * 2 ^ w < 2 * 2 ^ m
      top =
          subst (λ (x : ℕ). k * 2 ^ w < x) (pow-succ' 2 m)
          (lt_of_lt_of_le (subst (λ (x : ℕ). k * 2 ^ w < x) (unit-parts w n) (mul-lt-mul_of_pos_right kn (pow_pos w))) (pow_mono l))

      rest : terms-max * 2 ^ lost ≤ 2 ^ m
      rest = subst (λ (x : ℕ). x ≤ 2 ^ m) (sym (mul_comm terms-max (2 ^ lost)) ∙ refl) (subst (λ (x : ℕ). x ≤ 2 ^ m) (pow-add 2 lost 28) (pow_mono fits))
        where
          fits : lost + 28 ≤ m
          fits = omega (arith, u)

  -- S is not 0, and the pass is exact or S has 66 bits or more: S's sign is that of the sum
  pub sign-exact : 0 < k → RH + RL ≤ 0 → lo < hi
  sign-exact k0 R = omega (arith, H, R, mul-lt-mul_of_pos_right k0 (pow_pos w))

  pub sign-large : 2 ^ 65 ≤ k → RH + RL ≤ terms-max * 2 ^ w → lo < hi
  sign-large k0 R = omega (arith, H, R, mul-le-mul_right (2 ^ w) k0, pow_pos w)

-- ---- S modulo 2^768 is S: the two sides, cut, differ by less than 2^767 = 4 × 2^765

pub cut-close : (w a c Ra RC q A C : ℕ) → A ≡ a * 2 ^ w + Ra → C ≡ c * 2 ^ w + RC → Ra + RC ≤ terms-max * 2 ^ w → terms-max ≤ q
    → A < C + 3 * (q * 2 ^ w) → a < c + 4 * q
cut-close w a c Ra RC q A C e f R k h = lt_of_mul-lt-mul_right (2 ^ w) all
  where
    all : a * 2 ^ w < (c + 4 * q) * 2 ^ w
    all = omega (arith, e, f, R, h, mul-le-mul_right (2 ^ w) k)

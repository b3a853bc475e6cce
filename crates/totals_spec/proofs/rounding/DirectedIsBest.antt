-- Directed rounding is the best there is. A number of a format of p digits is m × 2^k with m below
-- 2^p, and k no lower than the grid g. The digits of x that are kept end at u, the larger of g and
-- the length of x less p. Of such numbers the greatest at most x is x cut at u, and the least at
-- least x is x cut at u and one unit more where something was cut.
use Prim.Native.Nat.{ℕ, ◌-◌, max, ◌+◌, ◌*◌, ◌/◌, ◌^◌, ◌%◌, ◌≤◌, ◌<◌, suc}
use lib.Ieee.{size}
use mathlib.Core.Bool.{Bool, not, ◌&&◌, true, false}
use lib.Dec.{eqb, T, leb, leb→le, nleb→lt}
use mathlib.Core.Path.{◌≡◌, sym, ap, ◌∙◌, subst, refl}
use native.Mathlib.Nat.{mul_assoc, mul-le-mul_right, le-div_iff_mul-le, div-add-mod'}
use native.Mathlib.Nat.{lt_of_mul-lt-mul_right, le_trans, le_of_lt, lt_of_lt_of_le, not-le_of_lt}
use native.Mathlib.Nat.{mod-lt, mul-lt-mul_of_pos_right, suc-mul, add-zero}
use lib.Pow.{pow_pos, pow-add, pow_mono}
use native.Mathlib.Omega.{arith}
use native.Mathlib.Numerals.{add-one}
use lib.Ieee.Digits.{size_reaches}
use borrow.Author.Tests.{eqb-true, eqb-false}
use Rattle.totals_spec.specs.Basics.{flag}
use Rattle.totals_spec.proofs.numbers.Bits.{pow-split}

-- where the kept digits end
abbrev pub ending : (p g x : ℕ) → ℕ
ending p g x = max g (size x - p)

-- x cut at u, and one unit more where `up` says so
abbrev cut_at : (u x : ℕ) → Bool → ℕ
cut_at u x up = (x / 2 ^ u + flag 1 up) * 2 ^ u

-- x rounded where the kept digits end: up where something is cut and `up` says so
abbrev pub directed : (p g x : ℕ) → Bool → ℕ
directed p g x up = cut_at (ending p g x) x (not (eqb (x % 2 ^ ending p g x) 0) && up)

-- y is the greatest number at most x, or the least at least x
abbrev pub Bounds : (p g x : ℕ) (up : Bool) (y : ℕ) → Type 0
Bounds p g x false y = (y ≤ x) × ((m k : ℕ) → m < 2 ^ p → g ≤ k → m * 2 ^ k ≤ x → m * 2 ^ k ≤ y)
Bounds p g x true y = (x ≤ y) × ((m k : ℕ) → m < 2 ^ p → g ≤ k → x ≤ m * 2 ^ k → y ≤ m * 2 ^ k)

-- ---- multiples of 2^u

-- a multiple of 2^k is one of 2^u, for u at most k
whole : (m k u : ℕ) → u ≤ k → m * 2 ^ k ≡ m * 2 ^ (k - u) * 2 ^ u
whole m k u h = ap (λ (x : ℕ). m * x) (pow-split u k h) ∙ sym (mul_assoc m (2 ^ (k - u)) (2 ^ u))

multiple-floor : (c u x : ℕ) → c * 2 ^ u ≤ x → c * 2 ^ u ≤ x / 2 ^ u * 2 ^ u
multiple-floor c u x h = mul-le-mul_right (2 ^ u) ((le-div_iff_mul-le (pow_pos u)).1 h)

-- a multiple that is at least x is at least the next one above x, where x is none
multiple-ceiling : (c u x : ℕ) → x ≤ c * 2 ^ u → 0 < x % 2 ^ u → suc (x / 2 ^ u) * 2 ^ u ≤ c * 2 ^ u
multiple-ceiling c u x h r = mul-le-mul_right (2 ^ u) (lt_of_mul-lt-mul_right (2 ^ u) under)
  where
    under : x / 2 ^ u * 2 ^ u < c * 2 ^ u
    under = omega (arith, div-add-mod' x (2 ^ u), h, r)

-- ---- x, and u where its kept digits end

module _ (p g x u : ℕ) (some : 0 < p) (at : u ≡ max g (size x - p)) where
  -- a number with bits below u lies below the top bit of x, and that bit survives the cut
  module _ (m k : ℕ) (m-lt : m < 2 ^ p) (grid : g ≤ k) (fine : k < u) where
    long : suc (k + p) ≤ size x
    long = omega (arith, grid, fine, at)

    small : m * 2 ^ k < 2 ^ (size x - 1)
    small = lt_of_lt_of_le (mul-lt-mul_of_pos_right m-lt (pow_pos k)) (subst (λ (y : ℕ). y ≤ 2 ^ (size x - 1)) (pow-add 2 p k) (pow_mono place))
      where
        place : p + k ≤ size x - 1
        place = omega (arith, long)

    tops : 2 ^ (size x - 1) ≤ x
    tops = size_reaches x (size x - 1) (omega (arith, long))

    survives : 2 ^ (size x - 1) ≤ x / 2 ^ u * 2 ^ u
    survives =
        subst (λ (y : ℕ). y ≤ x / 2 ^ u * 2 ^ u) (sym cutting) (multiple-floor (2 ^ (size x - 1 - u)) u x (subst (λ (y : ℕ). y ≤ x) cutting tops))
      where
        cutting : 2 ^ (size x - 1) ≡ 2 ^ (size x - 1 - u) * 2 ^ u
        cutting = pow-split u (size x - 1) (omega (arith, long, grid, fine, some, at))

  -- the greatest at most x, and the least at least x
  floor-best : (m k : ℕ) → m < 2 ^ p → g ≤ k → m * 2 ^ k ≤ x → m * 2 ^ k ≤ x / 2 ^ u * 2 ^ u
  floor-best m k h i l = go (leb u k) (leb→le u k) (nleb→lt u k)
    where
      coarse : u ≤ k → m * 2 ^ k ≤ x / 2 ^ u * 2 ^ u
      coarse c =
          let e = whole m k u c in
          subst (λ (y : ℕ). y ≤ x / 2 ^ u * 2 ^ u) (sym e) (multiple-floor (m * 2 ^ (k - u)) u x (subst (λ (y : ℕ). y ≤ x) e l))

      go : (b : Bool) → (T b → u ≤ k) → (T (not b) → k < u) → m * 2 ^ k ≤ x / 2 ^ u * 2 ^ u
      go true c f = coarse (c tt)
      go false c f = le_trans (le_of_lt (small m k h i (f tt))) (survives m k h i (f tt))

  ceiling-best : (m k : ℕ) → m < 2 ^ p → g ≤ k → x ≤ m * 2 ^ k → 0 < x % 2 ^ u → suc (x / 2 ^ u) * 2 ^ u ≤ m * 2 ^ k
  ceiling-best m k h i l r = go (leb u k) (leb→le u k) (nleb→lt u k)
    where
      coarse : u ≤ k → suc (x / 2 ^ u) * 2 ^ u ≤ m * 2 ^ k
      coarse c =
          let e = whole m k u c in
          subst (λ (y : ℕ). suc (x / 2 ^ u) * 2 ^ u ≤ y) (sym e) (multiple-ceiling (m * 2 ^ (k - u)) u x (subst (λ (y : ℕ). x ≤ y) e l) r)

      go : (b : Bool) → (T b → u ≤ k) → (T (not b) → k < u) → suc (x / 2 ^ u) * 2 ^ u ≤ m * 2 ^ k
      go true c f = coarse (c tt)
      go false c f = absurd (not-le_of_lt (lt_of_lt_of_le (small m k h i (f tt)) (tops m k h i (f tt))) l)

  parts : x / 2 ^ u * 2 ^ u + x % 2 ^ u ≡ x
  parts = div-add-mod' x (2 ^ u)

  cut : cut_at u x false ≡ x / 2 ^ u * 2 ^ u
  cut = ap (λ (n : ℕ). n * 2 ^ u) (add-zero (x / 2 ^ u))

  floored : Bounds p g x false (cut_at u x false)
  floored = rw cut (omega (arith, parts), floor-best)

  cut-best : (z up : Bool) → eqb (x % 2 ^ u) 0 ≡ z → Bounds p g x up (cut_at u x (not z && up))
  cut-best true false e = floored
  cut-best false false e = floored
  cut-best true true e = (omega (arith, exact), λ m k h i l. omega (arith, l, exact))
    where
      exact : cut_at u x false ≡ x
      exact = omega (arith, cut, parts, eqb-true (x % 2 ^ u) 0 e)
  cut-best false true e = rw (add-one (x / 2 ^ u)) (omega (arith, parts, next, mod-lt x (pow_pos u)), λ m k h i l. ceiling-best m k h i l left)
    where
      next : suc (x / 2 ^ u) * 2 ^ u ≡ x / 2 ^ u * 2 ^ u + 2 ^ u
      next = suc-mul (x / 2 ^ u) (2 ^ u)

      left : 0 < x % 2 ^ u
      left = omega (arith, eqb-false (x % 2 ^ u) 0 e)

-- THE RULE
pub directed-best : (p g x : ℕ) → 0 < p → (up : Bool) → Bounds p g x up (directed p g x up)
directed-best p g x some up = cut-best p g x (ending p g x) some refl (eqb (x % 2 ^ ending p g x) 0) up refl

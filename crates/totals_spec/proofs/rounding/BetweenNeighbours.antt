-- Two magnitudes that lie strictly between the same two neighbours j × 2^t and (j + 1) × 2^t, with
-- j of more than p bits, round alike in every mode, with every precision up to p, with the same
-- flags: every point at which a rounding changes is a multiple of 2^t.
use mathlib.Core.Path.{◌≡◌, sym, ap, ap₂, ◌∙◌, subst, refl}
use mathlib.Core.Bool.{Bool, true, false, not, cond}
use Prim.Native.Nat.{ℕ, ◌-◌, ◌^◌, ◌≤◌, ◌<◌, suc, ◌+◌, ◌*◌, ◌/◌, ◌%◌, zero, max}
use native.Mathlib.Nat.{lt_of_lt_of_le, mul-le-mul_right, mul_comm, mul_assoc, suc-mul, add_comm}
use native.Mathlib.Nat.{pow-succ', le_refl, not-le_of_lt, lt_of_not-le}
use lib.Dec.{T, ltb, leb, leb→le, nleb→lt, ltb→lt, nltb→le}
use lib.Pow.{pow_mono, pow-add, shr-shr, mod-pow-add, pow_pos}
use lib.Ieee.{size}
use lib.Ieee.Digits.{size-lt, size_reaches}
use borrow.Author.Tests.{lt-ltb, le-ltb, ne_eqb}
use native.Mathlib.Omega.{arith}
use lib.Arith.{digits_div, digits_mod}
use Rattle.totals_spec.specs.rounding.Round.{below_half, above_half, compared, dropped, rounded_at}
use Rattle.totals_spec.specs.rounding.Round.{tiny_sum, last_place, round_to, round}
use Rattle.totals_spec.specs.Basics.{is_set}
use Rattle.totals_spec.specs.formats.Format.{Format, emin_at}
use Rattle.totals_spec.specs.formats.Settings.{Settings, Rounding, rounding_of, precision_of}
use Rattle.totals_spec.proofs.numbers.Bits.{size_is, size_top, size-pos}

-- a test against a power of two is a test of the bit length
pub ltb-size : (x k : ℕ) → ltb x (2 ^ k) ≡ leb (size x) k
ltb-size x k = go (leb (size x) k) (leb→le (size x) k) (nleb→lt (size x) k)
  where
    go : (b : Bool) → (T b → size x ≤ k) → (T (not b) → k < size x) → ltb x (2 ^ k) ≡ b
    go true h g = lt-ltb _ _ (lt_of_lt_of_le (size-lt x) (pow_mono (h tt)))
    go false h g = le-ltb _ _ (size_reaches x k (g tt))

-- ---- a magnitude x = j × 2^t + e, 0 < e < 2^t

module _ (j t e : ℕ) (e0 : 0 < e) (e1 : e < 2 ^ t) where
  quotient : (j * 2 ^ t + e) / 2 ^ t ≡ j
  quotient = digits_div j e1

  remainder : (j * 2 ^ t + e) % 2 ^ t ≡ e
  remainder = digits_mod j e1

  -- its bit length
  size-at : (z : ℕ) → size j ≡ suc z → size (j * 2 ^ t + e) ≡ suc (z + t)
  size-at z h = size_is (j * 2 ^ t + e) (z + t) above below
    where
      lo : 2 ^ (z + t) ≤ j * 2 ^ t
      lo = subst (λ (x : ℕ). x ≤ j * 2 ^ t) (sym (pow-add 2 z t)) (mul-le-mul_right (2 ^ t) (size_top j z h))

      below : 2 ^ (z + t) ≤ j * 2 ^ t + e
      below = omega (arith, lo)

      hi : suc j * 2 ^ t ≤ 2 ^ suc z * 2 ^ t
      hi = mul-le-mul_right (2 ^ t) (subst (λ (x : ℕ). j < 2 ^ x) h (size-lt j))

      eq : 2 ^ suc z * 2 ^ t ≡ 2 ^ suc (z + t)
      eq = sym (pow-add 2 (suc z) t) ∙ ap (λ (x : ℕ). 2 ^ x) shift
        where
          shift : suc z + t ≡ suc (z + t)
          shift = omega arith

      above : j * 2 ^ t + e < 2 ^ suc (z + t)
      above = omega (arith, hi, eq, suc-mul j (2 ^ t))

  -- the digits kept at a place t + v
  kept_at : (v : ℕ) → (j * 2 ^ t + e) / 2 ^ (t + v) ≡ j / 2 ^ v
  kept_at v = sym (shr-shr (j * 2 ^ t + e) t v) ∙ ap (λ (x : ℕ). x / 2 ^ v) quotient

  -- and the part dropped there
  rest_at : (v : ℕ) → (j * 2 ^ t + e) % 2 ^ (t + v) ≡ j % 2 ^ v * 2 ^ t + e
  rest_at v =
      ap (λ (x : ℕ). (j * 2 ^ t + e) % 2 ^ x) (add_comm t v) ∙ mod-pow-add (j * 2 ^ t + e) v t
      ∙ ap₂ (λ (x y : ℕ). x % 2 ^ v * 2 ^ t + y) quotient remainder

  dropped-at : (v : ℕ) → dropped (j * 2 ^ t + e) (t + suc v) ≡ cond (ltb (j % 2 ^ suc v) (2 ^ v)) below_half above_half
  unfolding dropped
  dropped-at v = rw (rest_at (suc v)) (go (ltb (j % 2 ^ suc v) (2 ^ v)) (ltb→lt (j % 2 ^ suc v) (2 ^ v)) (nltb→le (j % 2 ^ suc v) (2 ^ v)))
    where
      -- 2^(t + v + 1) is twice 2^v × 2^t
      whole : 2 ^ (t + suc v) ≡ 2 * (2 ^ v * 2 ^ t)
      whole = pow-add 2 t (suc v) ∙ mul_comm (2 ^ t) (2 ^ suc v) ∙ dbl
        where
          dbl : 2 ^ suc v * 2 ^ t ≡ 2 * (2 ^ v * 2 ^ t)
          dbl = ap (λ (x : ℕ). x * 2 ^ t) (pow-succ' 2 v) ∙ mul_assoc 2 (2 ^ v) (2 ^ t)

      some : (j % 2 ^ suc v * 2 ^ t + e ≡ 0) → ⊥
      some h = omega arith

      go : (b : Bool) → (T b → j % 2 ^ suc v < 2 ^ v) → (T (not b) → 2 ^ v ≤ j % 2 ^ suc v)
          → compared (j % 2 ^ suc v * 2 ^ t + e) (2 ^ (t + suc v)) ≡ cond b below_half above_half
      go true h g = rw (ne_eqb _ 0 some, lt-ltb _ _ low)
        where
          fit : suc (j % 2 ^ suc v) * 2 ^ t ≤ 2 ^ v * 2 ^ t
          fit = mul-le-mul_right (2 ^ t) (h tt)

          low : (j % 2 ^ suc v * 2 ^ t + e) + (j % 2 ^ suc v * 2 ^ t + e) < 2 ^ (t + suc v)
          low = omega (arith, fit, whole, suc-mul (j % 2 ^ suc v) (2 ^ t))
      go false h g = rw (ne_eqb _ 0 some, le-ltb _ _ high, ne_eqb _ _ off)
        where
          fit : 2 ^ v * 2 ^ t ≤ j % 2 ^ suc v * 2 ^ t
          fit = mul-le-mul_right (2 ^ t) (g tt)

          high : 2 ^ (t + suc v) ≤ (j % 2 ^ suc v * 2 ^ t + e) + (j % 2 ^ suc v * 2 ^ t + e)
          high = omega (arith, fit, whole)

          off : (j % 2 ^ suc v * 2 ^ t + e) + (j % 2 ^ suc v * 2 ^ t + e) ≡ 2 ^ (t + suc v) → ⊥
          off h = omega (arith, fit, whole)

-- ---- so two such magnitudes round alike

module _ (j t a b : ℕ) (a0 : 0 < a) (a1 : a < 2 ^ t) (b0 : 0 < b) (b1 : b < 2 ^ t) where
  kept_same : (u : ℕ) → t < u → (j * 2 ^ t + a) / 2 ^ u ≡ (j * 2 ^ t + b) / 2 ^ u
  kept_same u h = subst (λ (x : ℕ). (j * 2 ^ t + a) / 2 ^ x ≡ (j * 2 ^ t + b) / 2 ^ x) place (kept_at j t a a0 a1 (u - t) ∙ sym (kept_at j t b b0 b1 (u - t)))
    where
      place : t + (u - t) ≡ u
      place = omega arith

  dropped-same : (u : ℕ) → t < u → dropped (j * 2 ^ t + a) u ≡ dropped (j * 2 ^ t + b) u
  dropped-same u h =
      subst (λ (x : ℕ). dropped (j * 2 ^ t + a) x ≡ dropped (j * 2 ^ t + b) x) place
      (dropped-at j t a a0 a1 (u - t - 1) ∙ sym (dropped-at j t b b0 b1 (u - t - 1)))
    where
      place : t + suc (u - t - 1) ≡ u
      place = omega arith

  rounded-same : (m : Rounding) (s : Bool) (u : ℕ) → t < u → rounded_at m s (j * 2 ^ t + a) u ≡ rounded_at m s (j * 2 ^ t + b) u
  unfolding rounded_at
  rounded-same m s u h = cc (kept_same u h, dropped-same u h)

  size_same : 0 < j → size (j * 2 ^ t + a) ≡ size (j * 2 ^ t + b)
  size_same h = go (size j) refl (size-pos j h)
    where
      go : (z : ℕ) → size j ≡ z → 0 < z → size (j * 2 ^ t + a) ≡ size (j * 2 ^ t + b)
      go zero e k = absurd (not-le_of_lt k (le_refl 0))
      go (suc z) e k = size-at j t a a0 a1 z e ∙ sym (size-at j t b b0 b1 z e)

  -- the bit length is above t + p
  size_above : (p : ℕ) → 2 ^ p ≤ j → t + p < size (j * 2 ^ t + a)
  size_above p h = lt_of_not-le (λ (k : size (j * 2 ^ t + a) ≤ t + p). not-le_of_lt (lt_of_lt_of_le (size-lt (j * 2 ^ t + a)) (pow_mono k)) reach)
    where
      reach : 2 ^ (t + p) ≤ j * 2 ^ t + a
      reach = omega (arith, pow-add 2 t p, mul_comm (2 ^ t) (2 ^ p), mul-le-mul_right (2 ^ t) h)

  module _ (f : Format) (c : Settings) (g : ℕ) (s : Bool) (p : ℕ) (jp : 2 ^ p ≤ j) (qp : precision_of f c ≤ p) where
    j_pos : 0 < j
    j_pos = lt_of_lt_of_le (pow_pos p) jp

    tiny-same : tiny_sum f c (precision_of f c) g s (j * 2 ^ t + a) ≡ tiny_sum f c (precision_of f c) g s (j * 2 ^ t + b)
    unfolding tiny_sum
    tiny-same = go (is_set c.tininess)
      where
        place : t < size (j * 2 ^ t + a) - precision_of f c
        place = omega (arith, size_above p jp)

        after : ltb (rounded_at (rounding_of c.rounding) s (j * 2 ^ t + a) (size (j * 2 ^ t + a) - precision_of f c)) (2 ^ emin_at f g)
            ≡ ltb (rounded_at (rounding_of c.rounding) s (j * 2 ^ t + b) (size (j * 2 ^ t + b) - precision_of f c)) (2 ^ emin_at f g)
        after = cc (rounded-same (rounding_of c.rounding) s (size (j * 2 ^ t + a) - precision_of f c) place, size_same j_pos)

        before : ltb (j * 2 ^ t + a) (2 ^ emin_at f g) ≡ ltb (j * 2 ^ t + b) (2 ^ emin_at f g)
        before = ltb-size (j * 2 ^ t + a) (emin_at f g) ∙ ap (λ (z : ℕ). leb z (emin_at f g)) (size_same j_pos) ∙ sym (ltb-size (j * 2 ^ t + b) (emin_at f g))

        go : (w : Bool) → cond w (ltb (rounded_at (rounding_of c.rounding) s (j * 2 ^ t + a) (size (j * 2 ^ t + a) - precision_of f c)) (2 ^ emin_at f g))
            (ltb (j * 2 ^ t + a) (2 ^ emin_at f g))
            ≡ cond w (ltb (rounded_at (rounding_of c.rounding) s (j * 2 ^ t + b) (size (j * 2 ^ t + b) - precision_of f c)) (2 ^ emin_at f g))
            (ltb (j * 2 ^ t + b) (2 ^ emin_at f g))
        go true = after
        go false = before

    to_same : (u : ℕ) → t < u → round_to f c (precision_of f c) g s (j * 2 ^ t + a) u ≡ round_to f c (precision_of f c) g s (j * 2 ^ t + b) u
    unfolding round_to
    to_same u h = cc (tiny-same, dropped-same u h, kept_same u h, rounded-same (rounding_of c.rounding) s u h)

    pub round_same : round f c g s (j * 2 ^ t + a) ≡ round f c g s (j * 2 ^ t + b)
    unfolding round
    round_same =
        to_same (last_place (emin_at f g) (precision_of f c) (size (j * 2 ^ t + a))) place
        ∙ ap (λ (z : ℕ). round_to f c (precision_of f c) g s (j * 2 ^ t + b) (last_place (emin_at f g) (precision_of f c) z)) (size_same j_pos)
      where
        place : t < last_place (emin_at f g) (precision_of f c) (size (j * 2 ^ t + a))
        place = at_least t p (precision_of f c) (emin_at f g) (size (j * 2 ^ t + a)) (size_above p jp) qp
          where
            at_least : (t p q low n : ℕ) → t + p < n → q ≤ p → t < max low (n - 1) + 1 - q
            at_least t p q low n h k = omega arith

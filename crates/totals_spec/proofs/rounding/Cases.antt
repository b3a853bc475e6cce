-- A rounding by its cases: x is flushed to zero, or lies above the largest number, or becomes a
-- number K × 2^u that the format holds.
use Prim.Native.Nat.{ℕ, ◌/◌, ◌^◌, ◌+◌, ◌-◌, ◌*◌, ◌≤◌, ◌<◌, max}
use lib.Ieee.{size}
use mathlib.Core.Bool.{Bool, ◌&&◌, true, false, cond}
use mathlib.Core.Path.{◌≡◌, refl}
use native.Mathlib.Nat.{lt_of_lt_of_le}
use native.Mathlib.Omega.{arith}
use lib.Pow.{pow_pos, pow_mono, shr_lt}
use lib.Ieee.Digits.{size-lt}
use Rattle.totals_spec.specs.formats.Format.{Format, emin_at, digits, exponent_range}
use Rattle.totals_spec.specs.rounding.Round.{last_place, dropped, rounds_up, inexact, rounded_at}
use Rattle.totals_spec.specs.rounding.Round.{overflows, overflow, Rounded, number_of, finished}
use Rattle.totals_spec.specs.rounding.Round.{tiny_sum, round_to}
use Rattle.totals_spec.specs.formats.Settings.{Settings, rounding_of}
use Rattle.totals_spec.specs.Basics.{flag, is_set}
use Rattle.totals_spec.specs.formats.Bounds.{RangeBounds}
use Rattle.totals_spec.specs.formats.Decode.{zero_of}
use Rattle.totals_spec.proofs.rounding.BesideTheSum.{Beside, same, over, under, beside}
use Rattle.totals_spec.proofs.rounding.LargestNumber.{greatest-of, is_nan, overflow-above}

-- where the digits kept end, whether the magnitude goes up, and the kept digits
abbrev pub place : Format → (g q x : ℕ) → ℕ
place f g q x = last_place (emin_at f g) q (size x)

abbrev pub goes_up : Format → Settings → (g q : ℕ) → Bool → ℕ → Bool
goes_up f c g q s x = rounds_up (rounding_of c.rounding) s (x / 2 ^ place f g q x) (dropped x (place f g q x))

abbrev pub kept : Format → Settings → (g q : ℕ) → Bool → ℕ → ℕ
kept f c g q s x = x / 2 ^ place f g q x + flag 1 (goes_up f c g q s x)

-- the flags of a number, tiny or not
abbrev pub flags_of : Format → Settings → (g q : ℕ) → Bool → ℕ → Bool → ℕ
flags_of f c g q s x t =
    flag 32 t + flag 16 (inexact (dropped x (place f g q x))) + flag 8 (t && inexact (dropped x (place f g q x))) + flag 64 (goes_up f c g q s x)

module _ (f : Format) (b : RangeBounds f) (c : Settings) (g q : ℕ) (s : Bool) (x : ℕ) (q0 : 1 ≤ q) (qp : q ≤ digits f) where
  pub place-grid : g ≤ place f g q x
  place-grid = go (digits f) (size x) q0 qp
    where
      go : (p n : ℕ) → 1 ≤ q → q ≤ p → g ≤ max (g + (p - 1)) (n - 1) + 1 - q
      go p n h k = omega arith

  flag_one : (t : Bool) → flag 1 t ≤ 1
  flag_one true = omega arith
  flag_one false = omega arith

  pub kept-few : kept f c g q s x ≤ 2 ^ q
  kept-few = omega (arith, less, flag_one (goes_up f c g q s x))
    where
      fits : (l n : ℕ) → n ≤ q + (max l (n - 1) + 1 - q)
      fits l n = omega arith

      less : x / 2 ^ place f g q x < 2 ^ q
      less = shr_lt q (place f g q x) (lt_of_lt_of_le (size-lt x) (pow_mono (fits (emin_at f g) (size x))))

  pub near : Beside (2 ^ place f g q x) x (kept f c g q s x * 2 ^ place f g q x) (inexact (dropped x (place f g q x))) (goes_up f c g q s x)
  unfolding rounded_at
  near = beside (rounding_of c.rounding) s x (place f g q x)

  -- the rounded magnitude is less than a unit above x
  near_by : {i t : Bool} → Beside (2 ^ place f g q x) x (kept f c g q s x * 2 ^ place f g q x) i t
      → kept f c g q s x * 2 ^ place f g q x < x + 2 ^ place f g q x
  near_by (same e) = omega (arith, e, pow_pos (place f g q x))
  near_by (over h k) = k
  near_by (under h) = omega (arith, h)

  pub round-cases : (Q : Rounded → Type 0)
      → (is_set c.flush_to_zero ≡ true → Q (record { value = zero_of s; flags = 8 + 16 + 32 }))
      → (greatest-of f b q q0 qp (is_nan f b q q0 qp) * 2 ^ (exponent_range f + g) < x → Q (overflow f c q s))
      → ((t : Bool) → overflows f q g (kept f c g q s x * 2 ^ place f g q x) ≡ false
      → Q (record { value = number_of f g s (kept f c g q s x * 2 ^ place f g q x); flags = flags_of f c g q s x t }))
      → Q (round_to f c q g s x (place f g q x))
  unfolding round_to finished rounded_at
  round-cases Q flush beyond number = go (tiny_sum f c q g s x) (is_set c.flush_to_zero) (overflows f q g (kept f c g q s x * 2 ^ place f g q x)) refl refl
    where
      above : overflows f q g (kept f c g q s x * 2 ^ place f g q x) ≡ true → Q (overflow f c q s)
      above e = beyond (overflow-above f b q q0 qp g x (kept f c g q s x) (near_by near) e)

      go : (t z o : Bool) → is_set c.flush_to_zero ≡ z → overflows f q g (kept f c g q s x * 2 ^ place f g q x) ≡ o
          → Q (cond (t && z) (record { value = zero_of s; flags = 8 + 16 + 32 }) (cond o (overflow f c q s)
          (record { value = number_of f g s (kept f c g q s x * 2 ^ place f g q x); flags = flags_of f c g q s x t })))
      go true true o h e = flush h
      go true false true h e = above e
      go true false false h e = number true e
      go false z true h e = above e
      go false z false h e = number false e

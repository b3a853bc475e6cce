-- MIRROR, of the rounding: a number with the other sign under the exchanged mode rounds to the
-- opposite, with the same flags.
use mathlib.Core.Path.{◌≡◌, refl, ap, ◌∙◌}
use Prim.Native.Nat.{ℕ, ◌-◌, ◌<◌, zero, suc, ◌+◌, ◌*◌, ◌/◌, ◌^◌}
use native.Mathlib.Omega.{arith}
use borrow.Author.Tests.{ne_eqb}
use mathlib.Core.Bool.{Bool, true, false, not, cond, ◌&&◌}
use lib.Dec.{eqb}
use lib.Ieee.{size}
use Rattle.totals_spec.specs.formats.Settings.{Rounding, ties_to_even, ties_to_away}
use Rattle.totals_spec.specs.formats.Settings.{ties_toward_zero, toward_positive, toward_negative}
use Rattle.totals_spec.specs.formats.Settings.{toward_zero, away_from_zero, to_odd, rounding_of}
use Rattle.totals_spec.specs.formats.Settings.{Settings, precision_of}
use Rattle.totals_spec.specs.rounding.Round.{Dropped, rounds_up, to_infinity, dropped, rounded_at}
use Rattle.totals_spec.specs.rounding.Round.{Rounded, beyond, stored_as, number_of, inexact}
use Rattle.totals_spec.specs.rounding.Round.{overflows, largest, overflow, finished, tiny_sum}
use Rattle.totals_spec.specs.rounding.Round.{last_place, round_to, round}
use Rattle.totals_spec.specs.Basics.{flag, is_set}
use Rattle.totals_spec.specs.formats.Format.{Kind, ieee, no_inf, fnuz, finite_only, Format, digits}
use Rattle.totals_spec.specs.formats.Format.{kind_of, emin_at}
use Rattle.totals_spec.specs.formats.Decode.{Unpacked, zero_of}
use Rattle.mirror_spec.specs.Mirror.{exchanged, opposite, mirrored}

-- ---- modes

abbrev turned_mode : Rounding → Rounding
turned_mode ties_to_even = ties_to_even
turned_mode ties_to_away = ties_to_away
turned_mode ties_toward_zero = ties_toward_zero
turned_mode toward_positive = toward_negative
turned_mode toward_negative = toward_positive
turned_mode toward_zero = toward_zero
turned_mode away_from_zero = away_from_zero
turned_mode to_odd = to_odd

-- the modes behind toward negative
pub others-stay : (n : ℕ) → 4 < n → exchanged n ≡ n
others-stay n h = rw (ne_eqb n 3 (λ e. omega (arith, e, h)), ne_eqb n 4 (λ e. omega (arith, e, h)))

exchanged-mode : (n : ℕ) → rounding_of (exchanged n) ≡ turned_mode (rounding_of n)
exchanged-mode zero = refl
exchanged-mode (suc zero) = refl
exchanged-mode (suc (suc zero)) = refl
exchanged-mode (suc (suc (suc zero))) = refl
exchanged-mode (suc (suc (suc (suc zero)))) = refl
exchanged-mode (suc (suc (suc (suc (suc n))))) = ap rounding_of (others-stay (suc (suc (suc (suc (suc n))))) (omega arith)) ∙ rest n
  where
    rest : (n : ℕ) → rounding_of (suc (suc (suc (suc (suc n))))) ≡ turned_mode (rounding_of (suc (suc (suc (suc (suc n))))))
    rest zero = refl
    rest (suc zero) = refl
    rest (suc (suc n)) = refl

up-turned : (m : Rounding) (s : Bool) (kept : ℕ) (d : Dropped) → rounds_up (turned_mode m) (not s) kept d ≡ rounds_up m s kept d
up-turned ties_to_even s kept d = refl
up-turned ties_to_away s kept d = refl
up-turned ties_toward_zero s kept d = refl
up-turned toward_positive s kept d = refl
up-turned toward_negative true kept d = refl
up-turned toward_negative false kept d = refl
up-turned toward_zero s kept d = refl
up-turned away_from_zero s kept d = refl
up-turned to_odd s kept d = refl

infinity-turned : (m : Rounding) (s : Bool) → to_infinity (turned_mode m) (not s) ≡ to_infinity m s
infinity-turned ties_to_even s = refl
infinity-turned ties_to_away s = refl
infinity-turned ties_toward_zero s = refl
infinity-turned toward_positive s = refl
infinity-turned toward_negative true = refl
infinity-turned toward_negative false = refl
infinity-turned toward_zero s = refl
infinity-turned away_from_zero s = refl
infinity-turned to_odd s = refl

at-turned : (m : Rounding) (s : Bool) (x u : ℕ) → rounded_at (turned_mode m) (not s) x u ≡ rounded_at m s x u
unfolding rounded_at
at-turned m s x u = ap (λ (b : Bool). (x / 2 ^ u + flag 1 b) * 2 ^ u) (up-turned m s (x / 2 ^ u) (dropped x u))

-- ---- the rounding

abbrev pub turned_rounded : Rounded → Rounded
turned_rounded r = record { value = opposite r.value; flags = r.flags }

cond-turned : (t : Bool) (x y x' y' : Rounded) → x' ≡ turned_rounded x → y' ≡ turned_rounded y → cond t x' y' ≡ turned_rounded (cond t x y)
cond-turned true x y x' y' h k = h
cond-turned false x y x' y' h k = k

beyond-turned : (k : Kind) (v : Unpacked) (s : Bool) → beyond k (opposite v) (not s) ≡ turned_rounded (beyond k v s)
beyond-turned ieee v s = refl
beyond-turned no_inf v s = refl
beyond-turned fnuz v s = refl
beyond-turned finite_only v s = refl

number-turned : (f : Format) (g : ℕ) (s : Bool) (y : ℕ) → number_of f g (not s) y ≡ opposite (number_of f g s y)
unfolding number_of
number-turned f g s y = go (eqb y 0)
  where
    go : (z : Bool) → cond z (zero_of (not s)) (stored_as (not s) (y / 2 ^ g) (size (y / 2 ^ g) - digits f))
        ≡ opposite (cond z (zero_of s) (stored_as s (y / 2 ^ g) (size (y / 2 ^ g) - digits f)))
    go true = refl
    go false = refl

module _ (f : Format) (c : Settings) where
  overflow-turned : (q : ℕ) (s : Bool) → overflow f (mirrored c) q (not s) ≡ turned_rounded (overflow f c q s)
  unfolding overflow mirrored largest
  overflow-turned q s =
      rw (exchanged-mode c.rounding, infinity-turned (rounding_of c.rounding) s)
      (cond-turned (to_infinity (rounding_of c.rounding) s && not (is_set c.saturate)) (beyond (kind_of f.kind) (largest f q s) s)
      (record { value = largest f q s; flags = 4 + 16 }) _ _ (beyond-turned (kind_of f.kind) (largest f q s) s) refl)

  tiny-turned : (q g : ℕ) (s : Bool) (x : ℕ) → tiny_sum f (mirrored c) q g (not s) x ≡ tiny_sum f c q g s x
  unfolding tiny_sum mirrored
  tiny-turned q g s x = rw (exchanged-mode c.rounding, at-turned (rounding_of c.rounding) s x (size x - q))

  finished-turned : (q g : ℕ) (s tiny : Bool) (d : Dropped) (up : Bool) (y : ℕ)
      → finished f (mirrored c) q g (not s) tiny d up y ≡ turned_rounded (finished f c q g s tiny d up y)
  unfolding finished mirrored
  finished-turned q g s tiny d up y =
      cond-turned (tiny && is_set c.flush_to_zero) (record { value = zero_of s; flags = 8 + 16 + 32 }) _ _ _ refl
      (cond-turned (overflows f q g y) (overflow f c q s) _ _ _ (unfold mirrored in overflow-turned q s)
      (ap (λ (v : Unpacked). record { value = v; flags = flag 32 tiny + flag 16 (inexact d) + flag 8 (tiny && inexact d) + flag 64 up })
      (number-turned f g s y)))

  pub precision-turned : precision_of f (mirrored c) ≡ precision_of f c
  unfolding precision_of mirrored
  precision-turned = refl

  pub round-turned : (g : ℕ) (s : Bool) (x : ℕ) → round f (mirrored c) g (not s) x ≡ turned_rounded (round f c g s x)
  unfolding round round_to
  round-turned g s x =
      rw (
        precision-turned,
        mode,
        tiny-turned q g s x,
        up-turned (rounding_of c.rounding) s (x / 2 ^ u) (dropped x u),
        at-turned (rounding_of c.rounding) s x u,
      ) (finished-turned q g s _ _ _ _)
    where
      q : ℕ
      q = precision_of f c

      u : ℕ
      u = last_place (emin_at f g) (precision_of f c) (size x)

      mode : rounding_of (mirrored c).rounding ≡ turned_mode (rounding_of c.rounding)
      mode = unfold mirrored in exchanged-mode c.rounding

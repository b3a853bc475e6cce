-- One rounding: a non-zero exact sum, as a sign and a magnitude in units, rounded once
-- into a format. `g` is the position of the format's least non-zero number (`grid` of `Format`).
use Rattle.std.specs.Prelude.{ℕ, ◌+◌, cond, ltb, eqb, ◌%◌, ◌^◌, Bool, true, false, not, ◌&&◌, ◌||◌}
use Rattle.std.specs.Prelude.{◌*◌, ◌/◌, suc, ◌-◌, leb, max}
use Rattle.std.specs.Float.Ieee.{size}
use Rattle.totals_spec.specs.formats.Settings.{Rounding, ties_to_even, ties_to_away}
use Rattle.totals_spec.specs.formats.Settings.{ties_toward_zero, toward_positive, toward_negative}
use Rattle.totals_spec.specs.formats.Settings.{toward_zero, away_from_zero, to_odd, Settings}
use Rattle.totals_spec.specs.formats.Settings.{rounding_of, precision_of}
use Rattle.totals_spec.specs.Basics.{flag, is_set}
use Rattle.totals_spec.specs.formats.Format.{Kind, ieee, no_inf, fnuz, finite_only, Format, kind_of}
use Rattle.totals_spec.specs.formats.Format.{digits, emax_at, exponent_range, emin_at}
use Rattle.totals_spec.specs.formats.Decode.{Unpacked, finite, infinity, nan, zero_of}

-- ---- the dropped part of a magnitude against half a unit of 2^u

pub data Dropped : Type 0 where
  nothing below_half at_half above_half : Dropped

-- d of 2^u units is dropped
abbrev pub compared : ℕ → ℕ → Dropped
compared d whole = cond (eqb d 0) nothing
    (cond (ltb (d + d) whole) below_half (cond (eqb (d + d) whole) at_half above_half))

unfoldable pub dropped : ℕ → ℕ → Dropped
dropped x u = compared (x % 2 ^ u) (2 ^ u)

abbrev pub inexact : Dropped → Bool
inexact nothing = false
inexact below_half = true
inexact at_half = true
inexact above_half = true

abbrev pub is_half : Dropped → Bool
is_half nothing = false
is_half below_half = false
is_half at_half = true
is_half above_half = false

abbrev pub is_above : Dropped → Bool
is_above nothing = false
is_above below_half = false
is_above at_half = false
is_above above_half = true

abbrev pub odd : ℕ → Bool
odd n = eqb (n % 2) 1

-- whether the magnitude goes up by one unit
abbrev pub rounds_up : Rounding → Bool → ℕ → Dropped → Bool
rounds_up ties_to_even s kept d = is_above d || (is_half d && odd kept)
rounds_up ties_to_away s kept d = is_above d || is_half d
rounds_up ties_toward_zero s kept d = is_above d
rounds_up toward_positive s kept d = inexact d && not s
rounds_up toward_negative s kept d = inexact d && s
rounds_up toward_zero s kept d = false
rounds_up away_from_zero s kept d = inexact d
rounds_up to_odd s kept d = inexact d && not (odd kept)

-- the multiple of 2^u that a magnitude rounds to, in units
abbrev pub nearest_to : Rounding → Bool → ℕ → ℕ → Dropped → ℕ
nearest_to m s u kept d = (kept + flag 1 (rounds_up m s kept d)) * 2 ^ u

unfoldable pub rounded_at : Rounding → Bool → ℕ → ℕ → ℕ
rounded_at m s x u = nearest_to m s u (x / 2 ^ u) (dropped x u)

-- ---- overflow (`overflows`, `overflow`, `largest`)

abbrev pub to_infinity : Rounding → Bool → Bool
to_infinity ties_to_even s = true
to_infinity ties_to_away s = true
to_infinity ties_toward_zero s = true
to_infinity toward_positive s = not s
to_infinity toward_negative s = s
to_infinity toward_zero s = false
to_infinity away_from_zero s = true
to_infinity to_odd s = false

abbrev pub is_no_inf : Kind → Bool
is_no_inf ieee = false
is_no_inf no_inf = true
is_no_inf fnuz = false
is_no_inf finite_only = false

-- y, rounded to q digits, is above the largest finite number: its top bit lies above emax, or it is
-- the NaN pattern of a NoInf format
unfoldable pub overflows : Format → ℕ → ℕ → ℕ → Bool
overflows f q g y =
    leb (2 ^ suc (emax_at f g)) y
    || (is_no_inf (kind_of f.kind) && eqb q (digits f)
    && eqb y ((2 ^ digits f - 1) * 2 ^ (suc (emax_at f g) - digits f)))

-- its significand has q ones, and in NoInf at full precision a 0 below them; its exponent is emax,
-- and its shift from the grid emax − emin
unfoldable pub largest : Format → ℕ → Bool → Unpacked
largest f q s =
    finite s (exponent_range f)
    (cond (is_no_inf (kind_of f.kind) && eqb q (digits f)) (2 ^ digits f - 2)
    ((2 ^ q - 1) * 2 ^ (digits f - q)))

pub record Rounded : Type 0 where
  pub value : Unpacked
  pub flags : ℕ

-- where the mode gives an infinity: a format without one gives its NaN, and one with neither its
-- largest number
abbrev pub beyond : Kind → Unpacked → Bool → Rounded
beyond ieee most s = record { value = infinity s; flags = 4 + 16 + 64 }
beyond no_inf most s = record { value = nan s false 0; flags = 4 + 16 }
beyond fnuz most s = record { value = nan s false 0; flags = 4 + 16 }
beyond finite_only most s = record { value = most; flags = 4 + 16 }

unfoldable pub overflow : Format → Settings → ℕ → Bool → Rounded
overflow f c q s =
    cond (to_infinity (rounding_of c.rounding) s && not (is_set c.saturate))
    (beyond (kind_of f.kind) (largest f q s) s)
    (record { value = largest f q s; flags = 4 + 16 })

-- ---- the rounded number. v is counted in the least non-zero number, 2^(emin − p + 1)

abbrev pub stored_as : Bool → ℕ → ℕ → Unpacked
stored_as s v k = finite s k (v / 2 ^ k)

unfoldable pub number_of : Format → ℕ → Bool → ℕ → Unpacked
number_of f g s y = cond (eqb y 0) (zero_of s)
    (stored_as s (y / 2 ^ g) (size (y / 2 ^ g) - digits f))

-- y is the rounded magnitude
unfoldable pub finished : Format → Settings → ℕ → ℕ → Bool → Bool → Dropped → Bool → ℕ → Rounded
finished f c q g s tiny d up y =
    cond (tiny && is_set c.flush_to_zero)
    (record { value = zero_of s; flags = 8 + 16 + 32 })
    (cond (overflows f q g y)
    (overflow f c q s)
    (record {
      value = number_of f g s y;
      flags = flag 32 tiny + flag 16 (inexact d) + flag 8 (tiny && inexact d) + flag 64 up;
    }))

-- whether the sum lies below 2^emin: as it is (tininess 0), or as q digits of it would be if
-- exponents went on downwards (1)
unfoldable pub tiny_sum : Format → Settings → ℕ → ℕ → Bool → ℕ → Bool
tiny_sum f c q g s x =
    cond (is_set c.tininess)
    (ltb (rounded_at (rounding_of c.rounding) s x (size x - q)) (2 ^ emin_at f g))
    (ltb x (2 ^ emin_at f g))

-- q digits are kept from the sum's highest bit on, and below emin those from emin on: the place of
-- the last one
abbrev pub last_place : ℕ → ℕ → ℕ → ℕ
last_place low q n = max low (n - 1) + 1 - q

unfoldable pub round_to : Format → Settings → ℕ → ℕ → Bool → ℕ → ℕ → Rounded
round_to f c q g s x u =
    finished f c q g s (tiny_sum f c q g s x) (dropped x u)
    (rounds_up (rounding_of c.rounding) s (x / 2 ^ u) (dropped x u))
    (rounded_at (rounding_of c.rounding) s x u)

unfoldable pub round : Format → Settings → ℕ → Bool → ℕ → Rounded
round f c g s x = round_to f c (precision_of f c) g s x
    (last_place (emin_at f g) (precision_of f c) (size x))

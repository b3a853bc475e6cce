-- Decoding (`decode` and `operand` of `binary.rs`): what an encoding stands for, and an operand
-- with denormals-are-zero. A finite number `finite s k m` is m × 2^k, counted in the format's least
-- non-zero number, 2^(emin − p + 1): k is the exponent field less one (0 for a subnormal), and m
-- the whole significand.
use Rattle.std.specs.Prelude.{ℕ, Bool, ◌-◌, ◌/◌, ◌%◌, ◌^◌, eqb, zero, suc, ◌+◌, false, ◌&&◌, cond}
use Rattle.std.specs.Prelude.{ltb, true}
use Rattle.totals_spec.specs.formats.Format.{Format, fraction_bits, Kind, ieee, no_inf, fnuz}
use Rattle.totals_spec.specs.formats.Format.{finite_only, kind_of}
use Rattle.totals_spec.specs.Basics.{is_set}
use Rattle.totals_spec.specs.formats.Settings.{Settings}

pub data Unpacked : Type 0 where
  zero_of : (negative : Bool) → Unpacked
  finite : (negative : Bool) (shift significand : ℕ) → Unpacked
  infinity : (negative : Bool) → Unpacked
  nan : (negative signaling : Bool) (payload : ℕ) → Unpacked

-- ---- the fields of an encoding b: the sign bit W − 1, the exponent field of E bits, the fraction

abbrev pub sign_bit : Format → ℕ → Bool
sign_bit f b = eqb (b / 2 ^ (f.W - 1) % 2) 1

abbrev pub field_of : Format → ℕ → ℕ
field_of f b = b / 2 ^ fraction_bits f % 2 ^ f.E

abbrev pub fraction_of : Format → ℕ → ℕ
fraction_of f b = b % 2 ^ fraction_bits f

-- a number with an implicit leading bit above a field of 0
abbrev pub number : ℕ → Bool → ℕ → ℕ → Unpacked
number t s zero zero = zero_of s
number t s zero (suc m) = finite s 0 (suc m)
number t s (suc x) m = finite s x (2 ^ t + m)

-- the field is all ones; the fraction is all ones
abbrev pub top_field : Format → ℕ → Bool
top_field f x = eqb x (2 ^ f.E - 1)

abbrev pub ones : Format → ℕ → Bool
ones f m = eqb m (2 ^ fraction_bits f - 1)

-- what the kinds do with their patterns: Ieee keeps the top field for infinities and NaNs, NoInf
-- the top pattern of either sign for a NaN, Fnuz makes −0 its NaN, Finite takes every pattern as a
-- number
abbrev pub decode_fields : Kind → Format → Bool → ℕ → ℕ → Unpacked
decode_fields ieee f s x m =
    cond (top_field f x)
    (cond (eqb m 0) (infinity s)
    (nan s (ltb m (2 ^ (fraction_bits f - 1))) (m % 2 ^ (fraction_bits f - 1))))
    (number (fraction_bits f) s x m)
decode_fields no_inf f s x m = cond (top_field f x && ones f m) (nan s false 0)
    (number (fraction_bits f) s x m)
decode_fields fnuz f s x m = cond (s && eqb x 0 && eqb m 0) (nan s false 0)
    (number (fraction_bits f) s x m)
decode_fields finite_only f s x m = number (fraction_bits f) s x m

unfoldable pub decode : Format → ℕ → Unpacked
decode f b = decode_fields (kind_of f.kind) f (sign_bit f b) (field_of f b) (fraction_of f b)

-- ---- operands

abbrev pub is_finite : Unpacked → Bool
is_finite (zero_of s) = false
is_finite (finite s k m) = true
is_finite (infinity s) = false
is_finite (nan s g m) = false

-- neither a NaN nor an infinity
abbrev pub is_number : Unpacked → Bool
is_number (zero_of s) = true
is_number (finite s k m) = true
is_number (infinity s) = false
is_number (nan s g m) = false

abbrev pub is_nan : Unpacked → Bool
is_nan (zero_of s) = false
is_nan (finite s k m) = false
is_nan (infinity s) = false
is_nan (nan s g m) = true

abbrev pub is_signaling : Unpacked → Bool
is_signaling (zero_of s) = false
is_signaling (finite s k m) = false
is_signaling (infinity s) = false
is_signaling (nan s g m) = g

-- a subnormal number: flag 128
unfoldable pub is_subnormal : Format → ℕ → Bool
is_subnormal f b = is_finite (decode f b) && eqb (field_of f b) 0

-- under denormals-are-zero a signed zero stands in for a subnormal number
unfoldable pub operand : Format → Settings → ℕ → Unpacked
operand f s b = cond (is_set s.denormals_are_zero && is_subnormal f b) (zero_of (sign_bit f b))
    (decode f b)

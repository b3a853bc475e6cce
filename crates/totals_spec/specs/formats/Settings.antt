-- Settings, as the numbers that a caller gives, with their ranges. Modes and NaN rules are numbered
-- as the Rust's `Rounding` and `NanPropagation` list them.
use Rattle.std.specs.Prelude.{ℕ, zero, suc, Bool, ◌&&◌, leb, true, false}
use Rattle.totals_spec.specs.formats.Format.{Format, digits}

pub data Rounding : Type 0 where
  ties_to_even ties_to_away ties_toward_zero toward_positive toward_negative toward_zero
      away_from_zero to_odd : Rounding

abbrev pub rounding_of : ℕ → Rounding
rounding_of zero = ties_to_even
rounding_of (suc zero) = ties_to_away
rounding_of (suc (suc zero)) = ties_toward_zero
rounding_of (suc (suc (suc zero))) = toward_positive
rounding_of (suc (suc (suc (suc zero)))) = toward_negative
rounding_of (suc (suc (suc (suc (suc zero))))) = toward_zero
rounding_of (suc (suc (suc (suc (suc (suc zero)))))) = away_from_zero
rounding_of (suc (suc (suc (suc (suc (suc (suc n))))))) = to_odd

pub data Propagation : Type 0 where
  signaling_first first_operand larger_significand default_nan : Propagation

abbrev pub propagation_of : ℕ → Propagation
propagation_of zero = signaling_first
propagation_of (suc zero) = first_operand
propagation_of (suc (suc zero)) = larger_significand
propagation_of (suc (suc (suc n))) = default_nan

pub record Settings : Type 0 where
  pub rounding : ℕ
  pub tininess : ℕ
  pub nan_propagation : ℕ
  pub default_nan_sign : ℕ
  pub flush_to_zero : ℕ
  pub denormals_are_zero : ℕ
  pub saturate : ℕ
  pub precision : ℕ

-- every setting 0
abbrev pub no_settings : Settings
no_settings =
    record {
      rounding = 0;
      tininess = 0;
      nan_propagation = 0;
      default_nan_sign = 0;
      flush_to_zero = 0;
      denormals_are_zero = 0;
      saturate = 0;
      precision = 0;
    }

-- every setting 0 but the rounding
unfoldable pub with_rounding : ℕ → Settings
with_rounding m =
    record {
      rounding = m;
      tininess = 0;
      nan_propagation = 0;
      default_nan_sign = 0;
      flush_to_zero = 0;
      denormals_are_zero = 0;
      saturate = 0;
      precision = 0;
    }

-- refusal 4 is the failure of this, or a summand above 2
unfoldable pub valid_settings : Format → Settings → Bool
valid_settings f s =
    leb s.rounding 7 && leb s.tininess 1 && leb s.nan_propagation 3 && leb s.default_nan_sign 1
    && leb s.flush_to_zero 1
    && leb s.denormals_are_zero 1 && leb s.saturate 1 && leb s.precision (digits f)

-- q, the digits to round to: p where no precision is set
abbrev pub chosen : ℕ → ℕ → ℕ
chosen zero p = p
chosen (suc q) p = suc q

unfoldable pub precision_of : Format → Settings → ℕ
precision_of f s = chosen s.precision (digits f)

abbrev pub is_toward_negative : Rounding → Bool
is_toward_negative ties_to_even = false
is_toward_negative ties_to_away = false
is_toward_negative ties_toward_zero = false
is_toward_negative toward_positive = false
is_toward_negative toward_negative = true
is_toward_negative toward_zero = false
is_toward_negative away_from_zero = false
is_toward_negative to_odd = false

-- ---- summands: 0 value, 1 magnitude, 2 square

pub data Summand : Type 0 where
  value magnitude square : Summand

abbrev pub summand_of : ℕ → Summand
summand_of zero = value
summand_of (suc zero) = magnitude
summand_of (suc (suc n)) = square

-- The settings that an environment is.
use Rattle.std.specs.Prelude.{◌≡◌, ℕ, Bool, true, ◌&&◌, leb, Option, Some, None}
use Rattle.totals_spec.specs.formats.Format.{Format}
use Rattle.totals_spec.specs.formats.Settings as spec
use Rattle.format.specs.declared.env.Env.{Env}
use Rattle.format.specs.Modes.{rounding_number, tininess_number, propagation_number, switch_number}

-- 0 where no precision is set
abbrev pub precision_number : Option ℕ → ℕ
precision_number None = 0
precision_number (Some q) = q

abbrev pub env_of : Env → spec.Settings
env_of env = record {
  rounding = rounding_number env.rounding;
  tininess = tininess_number env.tininess;
  nan_propagation = propagation_number env.nan_propagation;
  default_nan_sign = switch_number env.default_nan_negative;
  flush_to_zero = switch_number env.flush_to_zero;
  denormals_are_zero = switch_number env.denormals_are_zero;
  saturate = switch_number env.saturate;
  precision = precision_number env.precision;
}

-- whether all settings but the precision are in their ranges
abbrev pub are_modes : spec.Settings → Bool
are_modes settings =
    leb settings.rounding 7 && leb settings.tininess 1 && leb settings.nan_propagation 3
    && leb settings.default_nan_sign 1 && leb settings.flush_to_zero 1
    && leb settings.denormals_are_zero 1 && leb settings.saturate 1

abbrev pub AreModes : spec.Settings → Bool → Type 0
AreModes settings b = are_modes settings ≡ b

-- the settings that a caller gave, which are in their ranges for a format
pub record IsEnv (format : Format) (settings : spec.Settings) (env : Env) : Type 0 where
  pub is : env_of env ≡ settings
  pub valid : spec.valid_settings format settings ≡ true

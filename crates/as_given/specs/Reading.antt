-- Settings that every definition reads as it does others.
use Rattle.std.specs.Prelude.{◌≡◌}
use Rattle.totals_spec.specs.Basics.{is_set}
use Rattle.totals_spec.specs.formats.Settings.{Settings, rounding_of, propagation_of}

-- the numbers that were given, and those that they are read as: no definition of totals_spec asks
-- more of settings, but whether they are valid
pub record ReadAs (given read : Settings) : Type 0 where
  pub rounding : rounding_of read.rounding ≡ rounding_of given.rounding
  pub tininess : is_set read.tininess ≡ is_set given.tininess
  pub nan_propagation : propagation_of read.nan_propagation ≡ propagation_of given.nan_propagation
  pub default_nan_sign : is_set read.default_nan_sign ≡ is_set given.default_nan_sign
  pub flush_to_zero : is_set read.flush_to_zero ≡ is_set given.flush_to_zero
  pub denormals_are_zero : is_set read.denormals_are_zero ≡ is_set given.denormals_are_zero
  pub saturate : is_set read.saturate ≡ is_set given.saturate
  pub precision : read.precision ≡ given.precision

-- What the tests of refusals 3 and 4 say where they pass, as inequalities.
use Rattle.std.specs.Prelude.{◌≤◌, ℤ, nat_abs, ◌+◌}
use Rattle.std.proofs.Math.Option.{Option, none, some}
use Rattle.totals_spec.specs.formats.Format.{Format, digits, farthest_bias}
use Rattle.totals_spec.specs.formats.Settings.{Settings}

-- a named bias
abbrev pub Offered : Option ℤ → Type 0
Offered none = Unit {0}
Offered (some b) = nat_abs b ≤ farthest_bias

-- what the arithmetic asks of a format: at most 64 digits
pub record RangeBounds (f : Format) : Type 0 where
  pub kind-le : f.kind ≤ 3
  pub e-ge : 2 ≤ f.E
  pub e-le : f.E ≤ 28
  pub w-ge : f.E + 2 ≤ f.W
  pub p-le : f.W ≤ f.E + 64
  pub named-le : Offered f.named

pub record FormatBounds (f : Format) : Type 0 where
  pub kind-le : f.kind ≤ 3
  pub e-ge : 2 ≤ f.E
  pub e-le : f.E ≤ 28
  pub w-ge : f.E + 2 ≤ f.W
  pub w_le : f.W ≤ 64
  pub named-le : Offered f.named
  pub range : RangeBounds f

pub record SettingsBounds (f : Format) (c : Settings) : Type 0 where
  pub rounding-le : c.rounding ≤ 7
  pub tininess-le : c.tininess ≤ 1
  pub propagation-le : c.nan_propagation ≤ 3
  pub sign_le : c.default_nan_sign ≤ 1
  pub flush-le : c.flush_to_zero ≤ 1
  pub denormals-le : c.denormals_are_zero ≤ 1
  pub saturate-le : c.saturate ≤ 1
  pub precision-le : c.precision ≤ digits f

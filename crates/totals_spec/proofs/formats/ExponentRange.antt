-- The exponent range of a format: it is not empty, and an exponent field holds it.
use mathlib.Core.Path.{◌≡◌}
use Prim.Native.Nat.{◌+◌, ◌^◌, ◌≤◌, ◌<◌}
use native.Mathlib.Omega.{arith}
use lib.Pow.{pow_mono}
use Rattle.totals_spec.specs.formats.Bounds.{RangeBounds}
use Rattle.totals_spec.specs.formats.Format.{Format, Kind, ieee, no_inf, fnuz, finite_only, kind_of}
use Rattle.totals_spec.specs.formats.Format.{range_of, exponent_range}

module _ (f : Format) (b : RangeBounds f) where
  pub four-fields : 2 ^ 2 ≤ 2 ^ f.E
  four-fields = pow_mono b.e-ge

  pub range-pos : 1 ≤ exponent_range f
  unfolding exponent_range
  range-pos = go (kind_of f.kind)
    where
      go : (k : Kind) → 1 ≤ range_of k f.E
      go ieee = omega (arith, four-fields)
      go no_inf = omega (arith, four-fields)
      go fnuz = omega (arith, four-fields)
      go finite_only = omega (arith, four-fields)

  pub range-fits : exponent_range f + 1 < 2 ^ f.E
  unfolding exponent_range
  range-fits = go (kind_of f.kind)
    where
      go : (k : Kind) → range_of k f.E + 1 < 2 ^ f.E
      go ieee = omega (arith, four-fields)
      go no_inf = omega (arith, four-fields)
      go fnuz = omega (arith, four-fields)
      go finite_only = omega (arith, four-fields)

  -- in Ieee the last field is left over, in NoInf it is used
  pub range-ieee : kind_of f.kind ≡ ieee → exponent_range f + 3 ≤ 2 ^ f.E
  unfolding exponent_range
  range-ieee e = rw e (omega (arith, four-fields))

  pub range-noinf : kind_of f.kind ≡ no_inf → exponent_range f + 2 ≡ 2 ^ f.E
  unfolding exponent_range
  range-noinf e = rw e (omega (arith, four-fields))

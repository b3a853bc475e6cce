use Rattle.std.proofs.Common.{refl, arith}
use Rattle.totals_spec.specs.formats.Format.{exponent_range}
use Rattle.format.proofs.Shapes.{exponent_le, whole_le, range_of_others}
use Rattle.format.proofs.shape.Shape.exponent_range.Goals as goal

pub power-whole-requires : goal.power-whole-requires
power-whole-requires c = omega (arith, exponent_le c.args.self)

pub overflow_sub-result : goal.overflow_sub-result
overflow_sub-result c = omega (arith, (whole_le _ c.args.self c.power-whole.ensures.0).0)

pub overflow_sub-result-in_default : goal.overflow_sub-result-in_default
overflow_sub-result-in_default c = omega (arith, (whole_le _ c.args.self c.power-whole.ensures.0).0)

pub returns-in-Ieee-clause-value : goal.returns-in-Ieee-clause-value
unfolding exponent_range
returns-in-Ieee-clause-value c = rw (c.in-Ieee.is, c.power-whole.ensures.0) refl

pub returns-in-Ieee-clause-bound : goal.returns-in-Ieee-clause-bound
returns-in-Ieee-clause-bound c = let w = whole_le _ c.args.self c.power-whole.ensures.0 in omega (arith, w.0, w.1)

pub returns-in_default : goal.returns-in_default
unfolding exponent_range
returns-in_default c =
    let w = whole_le _ c.args.self c.power-whole.ensures.0 in
    record {
      value = rw (range_of_others c.args.self.kind c.args.self.exponent_bits c.in_default.not-Ieee, c.power-whole.ensures.0) refl;
      bound = omega (arith, w.0, w.1);
    }

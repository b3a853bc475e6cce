use Rattle.std.proofs.Common.{arith, refl}
use Rattle.format.proofs.Shapes.{exponent_ge, exponent_le, half_le, bias_of_others}
use Rattle.format.proofs.shape.Shape.own_bias.Goals as goal

pub overflow_sub-self : goal.overflow_sub-self
overflow_sub-self c = omega (arith, exponent_ge c.args.self)

pub power-half-requires : goal.power-half-requires
power-half-requires c = omega (arith, exponent_le c.args.self)

pub returns-in-Fnuz-clause-bound : goal.returns-in-Fnuz-clause-bound
returns-in-Fnuz-clause-bound c = omega (arith, half_le _ c.args.self c.power-half.ensures.0)

pub returns-in_default : goal.returns-in_default
returns-in_default c = record {
  value = rw (bias_of_others c.args.self.kind c.args.self.exponent_bits c.in_default.not-Fnuz) (rw c.power-half.ensures.0 refl);
  bound = omega (arith, half_le _ c.args.self c.power-half.ensures.0);
}

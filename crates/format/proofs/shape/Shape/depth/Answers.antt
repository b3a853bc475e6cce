use Rattle.std.proofs.Common.{arith}
use Rattle.totals_spec.specs.formats.Format.{depth}
use Rattle.format.proofs.Shapes.{width_ge, width_le}
use Rattle.format.proofs.shape.Shape.depth.Goals as goal

pub overflow_add-result : goal.overflow_add-result
overflow_add-result c = omega (arith, width_le c.args.self)

pub overflow_sub-result : goal.overflow_sub-result
overflow_sub-result c = omega (arith, width_ge c.args.self)

pub returns-clause-value : goal.returns-clause-value
unfolding depth
returns-clause-value c = omega (arith, c.bias_above.ensures.value, c.digits.ensures)

pub returns-clause-bound : goal.returns-clause-bound
returns-clause-bound c = omega (arith, width_le c.args.self, c.bias_above.ensures.bound, c.digits.ensures)

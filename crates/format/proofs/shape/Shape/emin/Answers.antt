use Rattle.std.proofs.Common.{arith}
use Rattle.format.proofs.Shapes.{width_ge, width_le}
use Rattle.format.proofs.shape.Shape.emin.Goals as goal

pub overflow_sub-result : goal.overflow_sub-result
overflow_sub-result c = omega (arith, width_ge c.args.self)

pub overflow_add-result : goal.overflow_add-result
overflow_add-result c = omega (arith, width_le c.args.self)

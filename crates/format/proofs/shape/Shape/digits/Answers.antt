use Rattle.std.proofs.Common.{arith}
use Rattle.format.proofs.Shapes.{width_ge}
use Rattle.format.proofs.shape.Shape.digits.Goals as goal

pub overflow_sub-result : goal.overflow_sub-result
overflow_sub-result c = omega (arith, width_ge c.args.self)

use Rattle.std.proofs.Common.{arith}
use Rattle.format.proofs.Shapes.{width_le}
use Rattle.format.proofs.shape.Shape.emax.Goals as goal

pub overflow_add-result : goal.overflow_add-result
overflow_add-result c = omega (arith, width_le c.args.self)

use Rattle.std.proofs.Common.{arith}
use Rattle.format.proofs.Shapes.{exponent_le}
use Rattle.format.proofs.shape.Shape.field_max.Goals as goal

pub power-requires : goal.power-requires
power-requires c = omega (arith, exponent_le c.args.self)

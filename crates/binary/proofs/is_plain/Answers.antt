-- The greatest field is at least 3.
use Rattle.std.proofs.Common.{◌^◌, ◌≤◌, arith, pow_mono}
use Rattle.format.proofs.Shapes.{exponent_ge}
use Rattle.binary.proofs.is_plain.Goals as goal

pub overflow_sub-result : goal.overflow_sub-result
overflow_sub-result c =
    let four : 2 ^ 2 ≤ 2 ^ c.args.layout.shape.exponent_bits = pow_mono (exponent_ge c.args.layout.shape) in
    omega (arith, four)

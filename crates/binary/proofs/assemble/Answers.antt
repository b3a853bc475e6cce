-- The field and the fraction leave room for the sign.
use Rattle.std.proofs.Common.{◌-◌, arith}
use Rattle.format.proofs.Layouts.{layout_bounds}
use Rattle.binary.proofs.Cases.{room, sign_le}
use Rattle.binary.proofs.assemble.Goals as goal

pub scaled-requires : goal.scaled-requires
scaled-requires c =
    let r = room _ _ _ (layout_bounds c.args.layout) c.requires.0 c.requires.1 in
    (omega arith, rw c.fraction_bits.ensures (omega (arith, r)))

pub overflow_add-result : goal.overflow_add-result
overflow_add-result c =
    let r = room _ _ _ (layout_bounds c.args.layout) c.requires.0 c.requires.1 in
    let s = sign_le (c.args.layout.shape.width - 1) (omega (arith, c.args.layout.narrow)) in
    record { fits = omega (arith, r, s, rw c.fraction_bits.ensures at c.scaled.ensures) }

pub overflow_add-result-2 : goal.overflow_add-result-2
overflow_add-result-2 c =
    let r = room _ _ _ (layout_bounds c.args.layout) c.requires.0 c.requires.1 in
    let s = sign_le (c.args.layout.shape.width - 1) (omega (arith, c.args.layout.narrow)) in
    record { fits = omega (arith, r, s, rw c.fraction_bits.ensures at c.scaled.ensures) }

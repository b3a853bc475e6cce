-- An operand is bounded.
use Rattle.std.proofs.Common.{sym, ap, ◌∙◌, arith}
use Rattle.totals_spec.specs.formats.Decode.{finite}
use Rattle.format.specs.Unpacked.{unpacked_of}
use Rattle.binary.specs.Terms.{Bounded}
use Rattle.format.proofs.Layouts.{layout_bounds}
use Rattle.binary.proofs.Elements.{operand-bounded}
use Rattle.binary.proofs.term.looked_hundred.Goals as goal

pub product-requires : goal.product-requires
product-requires c =
    let n = c.in-Finite in
    let b : Bounded (finite n.negative n.shift n.significand) =
    operand-bounded _ (layout_bounds c.args.layout) _ c.args.bits _ (sym c.closer.ensures.0 ∙ ap unpacked_of n.is) in
    (b.0, omega arith, b.1, omega arith)

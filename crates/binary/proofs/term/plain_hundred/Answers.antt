-- The shift of a normal number is small, and its significand is not 0.
use Rattle.std.proofs.Common.{rules}
use Rattle.format.proofs.Layouts.{layout_bounds}
use Rattle.binary.proofs.Elements.{field-shift, normal-pos}
use Rattle.binary.proofs.term.plain_hundred.Goals as goal

pub product-requires : goal.product-requires
product-requires c = search (rules, layout_bounds, field-shift, normal-pos)

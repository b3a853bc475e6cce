-- The shift of a normal number is small, and its significand is not 0.
use Rattle.std.proofs.Common.{rules}
use Rattle.format.proofs.Layouts.{layout_bounds}
use Rattle.binary.proofs.Elements.{field-shift, normal-pos}
use Rattle.binary.proofs.term.plain_term.Goals as goal

pub summand_term-requires : goal.summand_term-requires
summand_term-requires c = search (rules, layout_bounds, field-shift, normal-pos)

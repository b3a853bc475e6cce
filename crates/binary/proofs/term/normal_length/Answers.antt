-- The least normal significand has the digits of each.
use Rattle.std.proofs.Common.{◌∙◌}
use Rattle.format.specs.Layouts.{layout_of}
use Rattle.format.proofs.Layouts.{layout_bounds}
use Rattle.binary.proofs.Elements.{least_size}
use Rattle.binary.proofs.term.normal_length.Goals as goal

pub returns : goal.returns
returns c = c.bit_length.ensures ∙ rw (c.power.ensures.0, c.fraction_bits.ensures) (least_size (layout_of c.args.layout) (layout_bounds c.args.layout))

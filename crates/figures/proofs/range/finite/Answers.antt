-- By the exponent field.
use Rattle.std.proofs.Common.{sym}
use Rattle.totals_spec.specs.formats.Format.{binary64}
use Rattle.figures_spec.proofs.ranges.FiguresInOrder.{figure-by-field}
use Rattle.figures.proofs.range.finite.Goals as goal

pub returns : goal.returns
unfolding binary64
returns c = sym (figure-by-field c.args.bits c.ranges.bits.fits)

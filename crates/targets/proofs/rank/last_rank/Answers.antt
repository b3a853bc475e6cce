-- A format has more bits than its fraction.
use Rattle.format.specs.Layouts.{layout_of}
use Rattle.format.proofs.Layouts.{layout_bounds}
use Rattle.targets.proofs.Halving.{fraction-below}
use Rattle.targets.proofs.rank.last_rank.Goals as goal

pub overflow_sub-result : goal.overflow_sub-result
overflow_sub-result c = rw (c.power.ensures.0, c.fraction_bits.ensures, c.ones.ensures) (fraction-below (layout_of c.args.layout) (layout_bounds c.args.layout).w-ge)

use lib.Ieee.{of_bits, to_bits}
use Rattle.figures.proofs.range.low_of.Goals as goal

pub returns-in-Missing : goal.returns-in-Missing
unfolding of_bits to_bits
returns-in-Missing c = rw c.in-Missing.is

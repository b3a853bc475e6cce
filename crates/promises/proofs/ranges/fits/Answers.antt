use Rattle.figures_spec.proofs.ranges.NarrowestPair.{range-fits}
use Rattle.promises.proofs.ranges.fits.Goals as goal

pub returns : goal.returns
returns c = range-fits

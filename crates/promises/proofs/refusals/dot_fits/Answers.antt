use Rattle.totals_spec.proofs.sums.FieldsFit.{dot-fits}
use Rattle.promises.proofs.refusals.dot_fits.Goals as goal

pub returns : goal.returns
returns c = dot-fits

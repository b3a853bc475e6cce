use Rattle.totals_spec.proofs.sums.FieldsFit.{sum-fits}
use Rattle.promises.proofs.refusals.sum_fits.Goals as goal

pub returns : goal.returns
returns c = sum-fits

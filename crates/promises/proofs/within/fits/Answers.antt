use Rattle.targets_spec.proofs.within.Answers.{within-fits}
use Rattle.promises.proofs.within.fits.Goals as goal

pub returns : goal.returns
returns c = within-fits

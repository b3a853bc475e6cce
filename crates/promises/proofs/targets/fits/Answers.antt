use Rattle.targets_spec.proofs.several.Records.{target-fits}
use Rattle.promises.proofs.targets.fits.Goals as goal

pub returns : goal.returns
returns c = target-fits

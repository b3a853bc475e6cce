use Rattle.promises.proofs.records.WithoutAPass.{magnitudes-quiet}
use Rattle.promises.proofs.nans_and_infinities.magnitudes_quiet.Goals as goal

pub returns : goal.returns
returns c = magnitudes-quiet

use Rattle.promises.proofs.records.WithoutAPass.{magnitudes-signaling}
use Rattle.promises.proofs.nans_and_infinities.magnitudes_signaling.Goals as goal

pub returns : goal.returns
returns c = magnitudes-signaling

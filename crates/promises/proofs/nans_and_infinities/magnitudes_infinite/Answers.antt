use Rattle.promises.proofs.records.WithoutAPass.{magnitudes-infinite}
use Rattle.promises.proofs.nans_and_infinities.magnitudes_infinite.Goals as goal

pub returns : goal.returns
returns c = magnitudes-infinite

use Rattle.promises.proofs.records.ChosenNan.{selected-one}
use Rattle.promises.proofs.nans_and_infinities.selects_one.Goals as goal

pub returns : goal.returns
returns c = selected-one

use Rattle.promises.proofs.records.WithoutAPass.{dot-invalid}
use Rattle.promises.proofs.nans_and_infinities.dot_invalid.Goals as goal

pub returns : goal.returns
returns c = dot-invalid

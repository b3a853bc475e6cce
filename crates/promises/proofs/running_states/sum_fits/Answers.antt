use Rattle.running_spec.proofs.Promises.{sum-state-fits}
use Rattle.promises.proofs.running_states.sum_fits.Goals as goal

pub returns : goal.returns
returns c = sum-state-fits

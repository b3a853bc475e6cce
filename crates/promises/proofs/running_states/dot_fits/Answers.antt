use Rattle.running_spec.proofs.Promises.{dot-state-fits}
use Rattle.promises.proofs.running_states.dot_fits.Goals as goal

pub returns : goal.returns
returns c = dot-state-fits

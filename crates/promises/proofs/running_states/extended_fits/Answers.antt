use Rattle.running_spec.proofs.Promises.{extended-state-fits}
use Rattle.promises.proofs.running_states.extended_fits.Goals as goal

pub returns : goal.returns
returns c = extended-state-fits

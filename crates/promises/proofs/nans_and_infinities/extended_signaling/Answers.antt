use Rattle.promises.proofs.records.TenByteNans.{extended-signaling}
use Rattle.promises.proofs.nans_and_infinities.extended_signaling.Goals as goal

pub returns : goal.returns
returns c = extended-signaling

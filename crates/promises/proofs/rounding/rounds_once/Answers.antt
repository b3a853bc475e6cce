use Rattle.promises.proofs.roundings.RoundedByProperties.{round-once}
use Rattle.promises.proofs.rounding.rounds_once.Goals as goal

pub returns : goal.returns
returns c = round-once

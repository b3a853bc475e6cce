use Rattle.promises.proofs.roundings.CutsByRule.{cut-rounds}
use Rattle.promises.proofs.rounding.cuts_round.Goals as goal

pub returns : goal.returns
returns c = cut-rounds

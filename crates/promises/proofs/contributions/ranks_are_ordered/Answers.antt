use Rattle.targets_spec.proofs.contribution.NumbersOfRanks.{rank-order}
use Rattle.promises.proofs.contributions.ranks_are_ordered.Goals as goal

pub returns : goal.returns
returns c = rank-order

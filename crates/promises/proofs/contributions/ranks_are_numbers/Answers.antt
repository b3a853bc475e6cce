use Rattle.targets_spec.proofs.contribution.NumbersOfRanks.{rank-number}
use Rattle.promises.proofs.contributions.ranks_are_numbers.Goals as goal

pub returns : goal.returns
returns c = rank-number

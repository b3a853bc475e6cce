use Rattle.promises.proofs.records.TargetNumbers.{target-numbers}
use Rattle.promises.proofs.targets.thirteen_numbers.Goals as goal

pub returns : goal.returns
returns c = target-numbers

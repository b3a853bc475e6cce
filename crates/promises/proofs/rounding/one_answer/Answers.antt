use Rattle.promises.proofs.roundings.OneAnswer.{once-pins}
use Rattle.promises.proofs.rounding.one_answer.Goals as goal

pub returns : goal.returns
returns c = once-pins

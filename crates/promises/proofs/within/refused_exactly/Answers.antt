use Rattle.targets_spec.proofs.within.Answers.{within-refusal}
use Rattle.promises.proofs.within.refused_exactly.Goals as goal

pub returns : goal.returns
returns c = within-refusal

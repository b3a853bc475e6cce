use Rattle.targets_spec.proofs.contribution.Records.{contribution-refusal}
use Rattle.promises.proofs.contributions.refused_exactly.Goals as goal

pub returns : goal.returns
returns c = contribution-refusal

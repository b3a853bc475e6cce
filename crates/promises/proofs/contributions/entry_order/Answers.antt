use Rattle.targets_spec.proofs.contribution.Records.{contribution-entry-order}
use Rattle.promises.proofs.contributions.entry_order.Goals as goal

pub returns : goal.returns
returns c = contribution-entry-order

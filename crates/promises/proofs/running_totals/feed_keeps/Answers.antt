use Rattle.running_spec.proofs.Promises.{feed-keeps}
use Rattle.promises.proofs.running_totals.feed_keeps.Goals as goal

pub returns : goal.returns
returns c = feed-keeps

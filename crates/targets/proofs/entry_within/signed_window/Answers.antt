-- By the sign.
use Rattle.std.proofs.Common.{◌∙◌}
use Rattle.targets.proofs.EstimateWritten.{window-minus, window-plus}
use Rattle.targets.proofs.entry_within.signed_window.Goals as goal

pub returns-then-negative : goal.returns-then-negative
returns-then-negative c = c.negate.ensures ∙ window-minus _ _ c.if-negative.true c.requires

pub returns-else-negative : goal.returns-else-negative
returns-else-negative c = window-plus _ _ c.if-negative.false

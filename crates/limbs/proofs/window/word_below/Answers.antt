use Rattle.std.proofs.Common.{◌∙◌}
use Rattle.limbs.proofs.Words.{cons-at}
use Rattle.limbs.proofs.window.word_below.Goals as goal

pub returns-else-index-eq0 : goal.returns-else-index-eq0
returns-else-index-eq0 c = c.word_at.ensures ∙ cons-at c.args.window 0 c.args.index c.if-index-eq0.false

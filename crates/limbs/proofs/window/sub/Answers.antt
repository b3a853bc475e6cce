use Rattle.std.proofs.Common.{◌∙◌}
use Rattle.limbs.specs.Value.{value}
use Rattle.limbs.proofs.Words.{words, value-lt}
use Rattle.limbs.proofs.Lacking.{taken}
use Rattle.limbs.proofs.window.sub.Goals as goal

pub returns : goal.returns
returns c = c.add_with.ensures ∙ taken (value c.args.left) (value-lt (words 12 c.args.right _ c.well_formed.1.0)) c.complement.ensures

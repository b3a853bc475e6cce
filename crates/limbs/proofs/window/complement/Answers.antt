use Rattle.std.proofs.Common.{rules}
use Rattle.limbs.proofs.Words.{words}
use Rattle.limbs.proofs.Lacking.{complemented}
use Rattle.limbs.proofs.window.complement.Goals as goal

pub returns : goal.returns
returns c = complemented _ _ (words 12 _ _ c.well_formed.0) c.map.ensures.items.long (λ k b. let one = c.map.ensures.items.at k 0 0 b in search rules)

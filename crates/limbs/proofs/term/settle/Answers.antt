use Rattle.limbs.proofs.Within.{settles}
use Rattle.limbs.proofs.term.settle.Goals as goal

pub returns : goal.returns
returns c = settles c.lay.ensures c.turned.ensures c.turned.ensures.third

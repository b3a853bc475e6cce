use Rattle.limbs.specs.Value.{value}
use Rattle.limbs.proofs.window.increment.Goals as goal

pub returns : goal.returns
unfolding value
returns c = c.add.ensures

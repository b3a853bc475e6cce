-- What the words that it has passed hold together.
use Rattle.limbs.proofs.Below.{Gathered}
use Rattle.limbs.proofs.window.any_below.Given as goal

abbrev pub invariant-loop-i : goal.invariant-loop-i
invariant-loop-i l = Gathered l.window l.i l.whole

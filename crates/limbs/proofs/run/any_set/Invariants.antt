use Rattle.std.proofs.Common.{◌≡◌}
use Rattle.limbs.proofs.Words.{low}
use Rattle.limbs.proofs.run.any_set.Given as goal

-- the words so far are 0
abbrev pub invariant-loop-i : goal.invariant-loop-i
invariant-loop-i l = low l.words l.i ≡ 0

use Rattle.std.proofs.Common.{◌≡◌, ◌+◌, ◌*◌, ◌^◌, ◌≤◌}
use Rattle.limbs.specs.Value.{Words, value}
use Rattle.limbs.proofs.Words.{low}
use Rattle.limbs.proofs.window.add_with.Given as goal

-- what the words below i leave: their sum, and the carry into the word i
abbrev pub invariant-loop-i : goal.invariant-loop-i
invariant-loop-i l = (l.carry ≤ 1) × Words 12 l.sum × (value l.sum + l.carry * 2 ^ (64 * l.i) ≡ value l.fn.left + l.fn.carry + low l.fn.right l.i)

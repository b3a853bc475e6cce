use Rattle.std.proofs.Common.{◌≡◌, ◌+◌, ◌*◌, ◌^◌, ◌≤◌, length}
use Rattle.limbs.specs.Value.{Words, value}
use Rattle.limbs.proofs.Words.{low}
use Rattle.limbs.proofs.run.add_into.Given as goal

-- what the words below i leave: their sum, and the carry into the word i
abbrev pub invariant-loop-i : goal.invariant-loop-i
invariant-loop-i l = (l.carry ≤ 1) × Words (length l.fn.words) l.words × (value l.words + l.carry * 2 ^ (64 * l.i) ≡ value l.fn.words + l.fn.carry + low l.fn.other l.i)

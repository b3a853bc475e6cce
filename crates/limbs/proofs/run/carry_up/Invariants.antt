use Rattle.std.proofs.Common.{◌≡◌, ◌+◌, ◌*◌, ◌^◌, length}
use Rattle.limbs.specs.Value.{Words, value}
use Rattle.limbs.proofs.run.carry_up.Given as goal

-- the carry stands at the word i
abbrev pub invariant-loop-i : goal.invariant-loop-i
invariant-loop-i l = Words (length l.fn.words) l.words × (value l.words + 2 ^ (64 * l.i) ≡ value l.fn.words + 2 ^ (64 * l.at))

use Rattle.std.proofs.Common.{◌≡◌, length, take, sum_by}
use Rattle.limbs.specs.Value.{value}
use Rattle.limbs.specs.Gathered.{Gathered, added, taken}
use Rattle.limbs.proofs.run.add_list.Given as goal

-- the number is that of the first i
abbrev pub invariant-loop-i : goal.invariant-loop-i
invariant-loop-i l =
    (length l.words ≡ length l.fn.words)
    × Gathered (length l.fn.words) (value l.fn.words) (value l.words) (sum_by added (take l.i l.list)) (sum_by taken (take l.i l.list))

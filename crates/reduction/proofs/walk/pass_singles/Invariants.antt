-- The window and the lost bit are those of a pass over the first i items.
use Rattle.std.proofs.Common.{length}
use Rattle.reduction.proofs.Gather.{Running}
use Rattle.reduction.proofs.walk.pass_singles.Given as goal

abbrev pub invariant-loop-i : goal.invariant-loop-i
invariant-loop-i g l = let s = g.T.Terms.items l.list in Running s (length s) l.edge l.i l.total l.lost

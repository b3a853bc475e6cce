use Rattle.std.proofs.Common.{◌≡◌}
use Rattle.replay.proofs.rows_of.Given as goal

abbrev pub invariant-loop : goal.invariant-loop
invariant-loop g l = l.all.rows ≡ l.counter

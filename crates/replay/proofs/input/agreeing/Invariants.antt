use Rattle.std.proofs.Common.{◌≤◌}
use Rattle.replay.proofs.input.agreeing.Given as goal

abbrev pub invariant-loop : goal.invariant-loop
invariant-loop g l = l.agreed ≤ l.counter

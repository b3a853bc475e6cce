use Rattle.std.proofs.Common.{◌*◌, ◌≤◌}
use Rattle.replay.proofs.sections.Given as goal

abbrev pub invariant-loop : goal.invariant-loop
invariant-loop l = l.all.rows ≤ 65536 * l.counter

-- Each row adds at most 128.
use Rattle.std.proofs.Common.{◌*◌, ◌≤◌}
use Rattle.codec_test.proofs.next_rows.Given as goal

abbrev pub invariant-loop : goal.invariant-loop
invariant-loop g l = l.agreed ≤ 128 * l.counter

-- Each turn adds at most one.
use Rattle.std.proofs.Common.{◌≤◌}
use Rattle.codec_test.proofs.rows.choices.Given as goal

abbrev pub invariant-loop-j : goal.invariant-loop-j
invariant-loop-j l = l.agreed ≤ l.j

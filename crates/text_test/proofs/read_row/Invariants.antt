use Rattle.std.proofs.Common.{◌≤◌, ◌-◌, length}
use Rattle.text_test.proofs.read_row.Given as goal

abbrev pub invariant-loop-done : goal.invariant-loop-done
invariant-loop-done l = l.done ≤ length l.row

abbrev pub decreases-loop-done : goal.decreases-loop-done
decreases-loop-done l = length l.initial.row - l.done

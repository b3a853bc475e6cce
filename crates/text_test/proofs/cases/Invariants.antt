use Rattle.std.proofs.Common.{◌<◌}
use Rattle.text_test.proofs.cases.Given as goal

abbrev pub invariant-loop-case : goal.invariant-loop-case
invariant-loop-case l = l.agreed < l.case-counter

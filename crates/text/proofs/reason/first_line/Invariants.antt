use Rattle.text.proofs.Lines.{Unended}
use Rattle.text.proofs.reason.first_line.Given as goal

abbrev pub invariant-loop-place : goal.invariant-loop-place
invariant-loop-place l = Unended l.bytes l.place

use Rattle.text.proofs.Numbers.{SoFar}
use Rattle.text.proofs.read.number.Given as goal

abbrev pub invariant-loop-byte : goal.invariant-loop-byte
invariant-loop-byte l = SoFar l.digits l.byte-index l.value

use Rattle.std.proofs.Common.{take}
use Rattle.text.specs.Reasons.{AreDigits}
use Rattle.text.proofs.reason.first_stray.Given as goal

abbrev pub invariant-loop-place : goal.invariant-loop-place
invariant-loop-place l = AreDigits (take l.place l.bytes)

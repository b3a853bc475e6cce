use Rattle.std.proofs.Common.{◌≡◌, ◌%◌, ◌^◌}
use Rattle.hexadecimal.specs.Digits.{number_at}
use Rattle.hexadecimal.proofs.number.Given as goal

abbrev pub invariant-loop-i : goal.invariant-loop-i
invariant-loop-i l = l.value ≡ number_at l.bytes l.at l.i % 2 ^ 64

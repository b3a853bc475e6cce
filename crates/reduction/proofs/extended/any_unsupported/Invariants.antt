-- None of the first i values is unsupported.
use Rattle.std.proofs.Common.{◌≡◌, false, take}
use Rattle.totals_spec.specs.Basics.{any}
use Rattle.totals_spec.specs.ten_bytes.Extended.{unsupported, tens_in}
use Rattle.reduction.proofs.extended.any_unsupported.Given as goal

abbrev pub invariant-loop-i : goal.invariant-loop-i
invariant-loop-i l = any unsupported (take l.i (tens_in l.values)) ≡ false

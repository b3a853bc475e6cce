-- What was seen of the first i values.
use Rattle.std.proofs.Common.{◌≡◌, take}
use Rattle.totals_spec.specs.entries.Bytes.{values_in}
use Rattle.pages.specs.Paged.{seen_of}
use Rattle.pages.proofs.seen_in.Given as goal

abbrev pub invariant-loop-i : goal.invariant-loop-i
invariant-loop-i l = l.seen ≡ seen_of (take l.i (values_in l.fn.values))

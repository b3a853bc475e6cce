-- The value i is that of the list, and the values end where the list ends.
use Rattle.std.proofs.Common.{◌∙◌, sym, ap, arith}
use Rattle.totals_spec.specs.ten_bytes.Extended.{unsupported}
use Rattle.totals_spec.proofs.lists.FirstElements.{none-all, first_some}
use Rattle.reduction.proofs.Tens.{tens_length}
use Rattle.reduction.proofs.extended.any_unsupported.Goals as goal

pub returns-then-is_unsupported : goal.returns-then-is_unsupported
returns-then-is_unsupported c =
    let some = ap unsupported (sym c.ten_at.ensures) ∙ sym c.if-is_unsupported.ensures in
    sym (first_some unsupported _ c.loop-i.i 0 (omega (arith, tens_length c.args.values.now)) c.loop-i.invariant some)

pub returns : goal.returns
returns c = sym (none-all unsupported _ c.loop-i.i (omega (arith, tens_length c.args.values.now)) c.loop-i.invariant)

use Rattle.std.proofs.Common.{sym, ◌∙◌, arith}
use Rattle.text.proofs.Numbers.{so_far_bad, so_far_next, room}
use Rattle.text.proofs.read.number.Goals as goal

pub overflow_mul-value : goal.overflow_mul-value
overflow_mul-value c = omega (arith, room _ _ _ (omega arith) c.loop-byte.invariant)

pub returns-in_err-value : goal.returns-in_err-value
returns-in_err-value c = c.from_residual.ensures ∙ so_far_bad _ _ _ (omega arith) c.loop-byte.invariant (sym c.digit.ensures ∙ c.in_err-value.was)

pub overflow_add-value : goal.overflow_add-value
overflow_add-value c =
    let l = c.loop-byte in
    let next = so_far_next c.args.digits.now l.byte-index l.value c.in_ok-value.field-0 (omega arith) l.invariant (sym c.digit.ensures ∙ c.in_ok-value.was) in
    omega (arith, next.0, room _ _ _ (omega arith) l.invariant)

pub loop-byte-preserved : goal.loop-byte-preserved
loop-byte-preserved c = (so_far_next _ _ _ _ (omega arith) c.loop-byte.invariant (sym c.digit.ensures ∙ c.in_ok-value.was)).1

-- By the lengths, and slot by slot.
use Rattle.std.proofs.Common.{arith, length}
use Rattle.targets_spec.specs.entries.Lengths.{cut_short}
use Rattle.targets.proofs.TargetWritten.{slots-laid, slot-fits, not_three, targets-turned, targets-enter}
use Rattle.totals.proofs.Written.{let_in}
use Rattle.targets.proofs.entry.enter_sum_into.Goals as goal

pub returns-then-targets-ne-TARGET_BYTES : goal.returns-then-targets-ne-TARGET_BYTES
returns-then-targets-ne-TARGET_BYTES c = rw c.number.ensures (not_three c.args.format _ _ _ _ c.if-targets-ne-TARGET_BYTES.true)

pub returns-in-Err : goal.returns-in-Err
returns-in-Err c = rw c.number-in-Err.ensures (targets-turned c.args.format _ _ _ _ c.if-targets-ne-TARGET_BYTES.false _ (rw c.cut_short.ensures at (c.in-Err.ensures {u = tt})))

pub put_slot-requires : goal.put_slot-requires
put_slot-requires c =
    let passed = rw c.cut_short.ensures at (c.in_default.ensures {u = tt}) in
    let room = (let_in (cut_short c.args.format.kind c.args.values.now) (length c.args.answer.now) 96 passed).1 in
    (omega (arith, room), slot-fits _ _ _ _ _ 0 _ c.answers-printed.ensures.first _ room)

pub put_slot-requires-2 : goal.put_slot-requires-2
put_slot-requires-2 c =
    let passed = rw c.cut_short.ensures at (c.in_default.ensures {u = tt}) in
    let room = (let_in (cut_short c.args.format.kind c.args.values.now) (length c.args.answer.now) 96 passed).1 in
    let kept = c.put_slot.auto.answer in
    (omega (arith, room, kept), slot-fits _ _ _ _ _ 13 _ c.answers-printed.ensures.second _ (omega (arith, room, kept)))

pub put_slot-requires-3 : goal.put_slot-requires-3
put_slot-requires-3 c =
    let passed = rw c.cut_short.ensures at (c.in_default.ensures {u = tt}) in
    let room = (let_in (cut_short c.args.format.kind c.args.values.now) (length c.args.answer.now) 96 passed).1 in
    let kept = c.put_slot.auto.answer in
    let kept-2 = c.put_slot-2.auto.answer in
    (omega (arith, room, kept, kept-2), slot-fits _ _ _ _ _ 26 _ c.answers-printed.ensures.third _ (omega (arith, room, kept, kept-2)))

pub returns : goal.returns
returns c =
    let t = c.answers-printed.ensures in
    let passed = rw c.cut_short.ensures at (c.in_default.ensures {u = tt}) in
    targets-enter c.args.format _ _ _ _ c.if-targets-ne-TARGET_BYTES.false passed _
    (slots-laid _ _ c.args.denormals_are_zero _ _ _ _ _ t.first t.second t.third _ _ _ _ (let_in _ _ _ passed).1 c.put_slot.ensures c.put_slot-2.ensures c.put_slot-3.ensures)

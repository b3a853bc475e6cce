use Rattle.std.proofs.Common.{◌≡◌, ◌<◌, length, arith, sym, ◌∙◌}
use Rattle.std.proofs.lemmas.Grind.{common_steps}
use Rattle.text.proofs.Pieces.{cut_next, so_far_full, so_far_bad, so_far_more, so_far_end}
use Rattle.text.proofs.read.read_lines.Goals as goal

pub returns-then-is_full : goal.returns-then-is_full
returns-then-is_full c =
    let l = c.loop-piece in
    let cut = cut_next l.piece-iterator c.next.new.self c.in-Some.piece l.invariant.2 c.in-Some.ensures.steps in
    let full : length l.values.items ≡ 8192 = grind (arith, common_steps) in
    so_far_full _ _ _ _ _ cut l.invariant.3 _ c.len.ensures.value full

pub returns-in_err-ok_or : goal.returns-in_err-ok_or
returns-in_err-ok_or c =
    let l = c.loop-piece in
    let cut = cut_next l.piece-iterator c.next.new.self c.in-Some.piece l.invariant.2 c.in-Some.ensures.steps in
    let room : length l.values.items < 8192 = grind (arith, common_steps) in
    let bad = so_far_bad _ _ _ _ _ cut l.invariant.3 room (sym c.value.ensures ∙ c.in_err-ok_or.ensures.ok_part) in
    rw (← bad) (grind (arith, common_steps))

pub loop-piece-preserved : goal.loop-piece-preserved
loop-piece-preserved c =
    let l = c.loop-piece in
    let cut = cut_next l.piece-iterator c.next.new.self c.in-Some.piece l.invariant.2 c.in-Some.ensures.steps in
    let room : length l.values.items < 8192 = grind (arith, common_steps) in
    let more = so_far_more _ _ _ _ _ cut l.invariant.3 room _ (sym c.value.ensures ∙ c.in_ok-ok_or.ensures.ok_part) in
    (rw c.in-Some.ensures.steps.0 l.invariant.0, tt, c.in-Some.ensures.steps.0 ∙ l.invariant.2, rw c.push.ensures.items more)

pub returns : goal.returns
returns c = so_far_end _ _ _ c.in-None.ensures.steps.1.0 c.loop-piece.invariant.3

-- One turn more: an item that is none changes nothing, and the part of a term is added.
use Rattle.std.proofs.Common.{refl, sym, ◌∙◌, subst, mod-eq_of_lt}
use borrow.Author.Tests.{not-true}
use Rattle.limbs.specs.Value.{term}
use Rattle.limbs.proofs.Words.{words}
use Rattle.limbs.specs.Placed.{Settles}
use Rattle.limbs.proofs.Stored.{two-stored, two-moved}
use Rattle.reduction.proofs.Gather.{Turn, fits, running-start, running-end, running-over, turn-none, kept_moved, kept_past}
use Rattle.reduction.proofs.walk.pass_singles.Goals as goal

pub loop-i-init : goal.loop-i-init
loop-i-init g c = running-start refl c.start-total.ensures

pub loop-i-preserved-in_default : goal.loop-i-preserved-in_default
loop-i-preserved-in_default g c = running-over c.loop-i.invariant (rw c.count-i-end.ensures at c.loop-i-test.true) c.in_default.ensures.gives

pub loop-i-preserved-in_default-kept : goal.loop-i-preserved-in_default-kept
loop-i-preserved-in_default-kept g c =
    let turn : Turn c.loop-i.invariant c.in-Some.term c.window_part-part.result c.max-lost.result = record {
      inside = rw c.count-i-end.ensures at c.loop-i-test.true;
      stands = c.in-Some.ensures.gives;
      part = c.window_part-part.ensures;
      larger = c.max-lost.ensures;
    } in
    turn-none turn c.in_default-kept.is

pub loop-i-preserved-then-not-placed : goal.loop-i-preserved-then-not-placed
loop-i-preserved-then-not-placed g c =
    let turn : Turn c.loop-i.invariant c.in-Some.term c.window_part-part.result c.max-lost.result = record {
      inside = rw c.count-i-end.ensures at c.loop-i-test.true;
      stands = c.in-Some.ensures.gives;
      part = c.window_part-part.ensures;
      larger = c.max-lost.ensures;
    } in
    let q = c.settle_single-placed in
    let p = c.in-Some-kept.kept in
    let one = c.low.ensures ∙ mod-eq_of_lt (rw c.in-Some-kept.is at (c.window_part-part.ensures.one_word (c.in-Some.ensures.one_word c.requires))) in
    let s : Settles 10 q.result.w1 c.in-Some.term.negative (term p.significand p.up) q.result =
    subst (λ m. Settles 10 q.result.w1 c.in-Some.term.negative (term m p.up) q.result) one q.ensures.0 in
    kept_past turn c.in-Some-kept.is (s.past (not-true _ c.if-not-placed.true))

pub loop-i-preserved-then-goes_on : goal.loop-i-preserved-then-goes_on
loop-i-preserved-then-goes_on g c =
    let turn : Turn c.loop-i.invariant c.in-Some.term c.window_part-part.result c.max-lost.result = record {
      inside = rw c.count-i-end.ensures at c.loop-i-test.true;
      stands = c.in-Some.ensures.gives;
      part = c.window_part-part.ensures;
      larger = c.max-lost.ensures;
    } in
    kept_moved turn c.in-Some-kept.is (words 12 _ _ c.move_term-next.type_inv) c.move_term-next.ensures

pub loop-i-preserved : goal.loop-i-preserved
loop-i-preserved g c =
    let turn : Turn c.loop-i.invariant c.in-Some.term c.window_part-part.result c.max-lost.result = record {
      inside = rw c.count-i-end.ensures at c.loop-i-test.true;
      stands = c.in-Some.ensures.gives;
      part = c.window_part-part.ensures;
      larger = c.max-lost.ensures;
    } in
    let q = c.settle_single-placed in
    let p = c.in-Some-kept.kept in
    let one = c.low.ensures ∙ mod-eq_of_lt (rw c.in-Some-kept.is at (c.window_part-part.ensures.one_word (c.in-Some.ensures.one_word c.requires))) in
    let s : Settles 10 q.result.w1 c.in-Some.term.negative (term p.significand p.up) q.result =
    subst (λ m. Settles 10 q.result.w1 c.in-Some.term.negative (term m p.up) q.result) one q.ensures.0 in
    let none = q.ensures.1 in
    let h = c.loop-i.invariant.words in
    let x = fits _ c.add_word-first.type_inv in
    let y = fits _ c.add_word-second.type_inv in
    let stays = sym c.goes_on.ensures ∙ c.if-goes_on.false in
    kept_moved turn c.in-Some-kept.is (two-stored h s none x y c.add_word-first.ensures c.add_word-second.ensures stays)
    (two-moved h s none x y c.add_word-first.ensures c.add_word-second.ensures stays)

pub returns : goal.returns
returns g c = running-end c.loop-i.invariant (rw c.count-i-end.ensures at c.loop-i-test.false) c.finished.ensures

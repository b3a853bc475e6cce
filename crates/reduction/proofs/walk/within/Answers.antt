-- Each turn of the loop is a pass of the definitions' chain, and one pass or more of those that are
-- allowed.
use Rattle.std.proofs.Common.{sym, ◌∙◌, arith}
use borrow.Author.Tests.{leb-true, leb-false}
use Rattle.reduction.proofs.Loop.{loop-start, loop-holds-at, loop-ready, loop-next, loop-room, loop-done, loop-stopped}
use Rattle.reduction.proofs.walk.within.Goals as goal

pub start-chain-requires : goal.start-chain-requires
start-chain-requires g c = rw c.requires.1 (loop-start c.requires.0)

pub loop-next-init : goal.loop-next-init
loop-next-init g c = (loop-holds-at c.requires.0 _ c.requires.1 c.start-chain.ensures, rw c.start-chain.ensures c.requires.2)

pub advance-requires : goal.advance-requires
advance-requires g c = loop-ready c.requires.0 _ _ c.loop-next.invariant.0 c.pass-seen.ensures

pub stopped-requires : goal.stopped-requires
stopped-requires g c =
    let i = c.loop-next.invariant in
    let past = leb-true _ _ (sym c.ends.ensures ∙ c.if-ends.true) in
    rw c.passes.ensures (i.1, loop-room c.requires.0 _ _ i.0 c.pass-seen.ensures _ i.1 _ c.in-Continue.ensures past)

pub returns-then-ends : goal.returns-then-ends
returns-then-ends g c =
    let i = c.loop-next.invariant in
    let past = leb-true _ _ (sym c.ends.ensures ∙ c.if-ends.true) in
    loop-stopped c.requires.0 _ _ i.0 c.pass-seen.ensures _ i.1 _ c.in-Continue.ensures past _ (rw c.passes.ensures at c.stopped.ensures)

pub loop-next-smaller : goal.loop-next-smaller
loop-next-smaller g c = (loop-next c.requires.0 _ _ c.loop-next.invariant.0 c.pass-seen.ensures _ c.in-Continue.ensures).falls

pub loop-next-preserved : goal.loop-next-preserved
loop-next-preserved g c = (
  (loop-next c.requires.0 _ _ c.loop-next.invariant.0 c.pass-seen.ensures _ c.in-Continue.ensures).walked,
  leb-false _ _ (sym c.ends.ensures ∙ c.if-ends.false),
)

pub overflow_add-result : goal.overflow_add-result
overflow_add-result g c = omega (arith, (loop-ready c.requires.0 _ _ c.loop-next.invariant.0 c.pass-seen.ensures).1.passes)

pub returns-in-Break : goal.returns-in-Break
returns-in-Break g c =
    let i = c.loop-next.invariant in
    loop-done c.requires.0 _ _ i.0 c.pass-seen.ensures _ i.1 _ c.in-Break.ensures

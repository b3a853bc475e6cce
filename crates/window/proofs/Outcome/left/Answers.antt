-- What each outcome leaves to round.
use Rattle.std.proofs.Common.{arith}
use Rattle.window.proofs.Left.{exact-left, inexact-left, on-left, above-left, below_left}
use Rattle.window.proofs.Outcome.left.Goals as goal

pub returns-in-Exact : goal.returns-in-Exact
returns-in-Exact c =
    let e = c.in-Exact.is in
    let h = rw e at c.requires in
    rw e (exact-left c.in-Exact.s _ h.0 c.narrowed.ensures)

pub returns-in-Inexact : goal.returns-in-Inexact
returns-in-Inexact c =
    let e = c.in-Inexact.is in
    let h = rw e at c.requires in
    rw e (inexact-left c.in-Inexact.s _ h.0 (omega (arith, h.1.high)) c.narrowed-in-Inexact.ensures)

pub returns-in-Below : goal.returns-in-Below
returns-in-Below c =
    let e = c.in-Below.is in
    let h = rw e at c.requires in
    rw e
    (below_left c.in-Below.b _ _ (omega (arith, h.2.high)) h.0 h.1 c.quarters.ensures _ _ c.shl.ensures c.power.ensures c.sub.ensures)

pub returns-in-On : goal.returns-in-On
returns-in-On c =
    let e = c.in-On.is in
    let h = rw e at c.requires in
    rw e (on-left c.in-On.b _ h.0 c.narrowed-in-On.ensures)

pub returns-in-Above : goal.returns-in-Above
returns-in-Above c =
    let e = c.in-Above.is in
    let h = rw e at c.requires in
    rw e (above-left c.in-Above.b _ _ (omega (arith, h.2.high)) h.0 h.1 c.quarters-in-Above.ensures c.shl-in-Above.ensures)

-- The step that the code takes with no boundary is that of the definitions.
use Rattle.std.proofs.Common.{ap, arith}
use Rattle.window.specs.Chain.{boundary_of}
use Rattle.window.proofs.Decided.{zero-follows, exact-follows, lower-follows, low-follows, high-follows, inexact-follows}
use Rattle.window.proofs.Chain.step.Goals as goal

pub returns-then-length-eq0 : goal.returns-then-length-eq0
returns-then-length-eq0 c =
    let a = c.args in
    zero-follows a.digits a.self a.sum a.length a.lost c.requires.3 c.if-lost-eq0.true c.requires.4 c.if-length-eq0.true

pub returns-else-length-eq0 : goal.returns-else-length-eq0
returns-else-length-eq0 c =
    let a = c.args in
    exact-follows a.digits a.self a.sum a.length a.lost c.requires.3 c.if-lost-eq0.true c.requires.4 c.if-length-eq0.false

pub returns-then-length-digits : goal.returns-then-length-digits
returns-then-length-digits c =
    let a = c.args in
    lower-follows a.digits a.self a.sum a.length a.lost _ (ap boundary_of c.requires.2) c.if-lost-eq0.false (omega arith) c.lowered.ensures

pub returns-in-Low : goal.returns-in-Low
returns-in-Low c =
    let a = c.args in
    low-follows a.digits a.self a.sum a.length a.lost c.requires.3 c.if-lost-eq0.false (omega arith) _ c.how_near.ensures _ c.in-Low.is
    c.bounded.ensures

pub returns-in-High : goal.returns-in-High
returns-in-High c =
    let a = c.args in
    high-follows a.digits a.self a.sum a.length a.lost c.requires.3 c.if-lost-eq0.false (omega arith) _ c.how_near.ensures _ c.in-High.is
    c.bounded-in-High.ensures

pub returns-in-Between : goal.returns-in-Between
returns-in-Between c =
    let a = c.args in
    inexact-follows a.digits a.self a.sum a.length a.lost c.requires.3 c.if-lost-eq0.false (omega arith) _ c.how_near.ensures c.in-Between.is

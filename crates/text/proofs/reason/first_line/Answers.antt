use Rattle.text.proofs.Lines.{unended_start, unended_more, ended_here, unended_all}
use Rattle.text.proofs.reason.first_line.Goals as goal

pub loop-place-init : goal.loop-place-init
loop-place-init c = unended_start _

pub loop-place-preserved : goal.loop-place-preserved
loop-place-preserved c = unended_more _ _ c.loop-place-test.true c.loop-place.invariant c.if-bytes-place-eq10.false

pub returns-then-bytes-place-eq10 : goal.returns-then-bytes-place-eq10
returns-then-bytes-place-eq10 c = ended_here _ _ c.loop-place-test.true c.loop-place.invariant c.if-bytes-place-eq10.true

pub returns : goal.returns
returns c = unended_all _ _ c.loop-place-test.false c.loop-place.invariant

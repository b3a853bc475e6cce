-- The step that the code takes beside a boundary is that of the definitions.
use Rattle.std.proofs.Common.{ap}
use Rattle.window.specs.Chain.{boundary_of}
use Rattle.window.proofs.Decided.{beside-follows, again-follows}
use Rattle.window.proofs.Chain.step_beside.Goals as goal

pub returns-then-length-ge-SIDE_BITS : goal.returns-then-length-ge-SIDE_BITS
returns-then-length-ge-SIDE_BITS c = λ p.
    let a = c.args in
    rw c.beside.ensures (beside-follows p a.self a.sum a.length a.lost a.boundary c.if-length-ge-SIDE_BITS.either c.requires.2)

pub returns-else-length-ge-SIDE_BITS : goal.returns-else-length-ge-SIDE_BITS
returns-else-length-ge-SIDE_BITS c = λ p.
    let a = c.args in
    let short = c.if-length-ge-SIDE_BITS.false in
    again-follows p a.self a.sum a.length a.lost a.boundary _ (ap boundary_of c.requires.1) short.0 short.1 c.lowered.ensures

-- By the signs.
use Rattle.std.proofs.Common.{◌∙◌, arith, ne_eqb}
use Rattle.figures.proofs.RangeFigures.{both-plus, plus-minus, zero_minus, minus_plus, both-minus}
use Rattle.figures.proofs.range.at_most.Goals as goal

pub returns-in-true-true : goal.returns-in-true-true
returns-in-true-true c =
    both-plus _ _ c.requires.0 c.requires.1 c.in-true-true.is-0 c.in-true-true.is-1

pub returns-then-low-eq0 : goal.returns-then-low-eq0
returns-then-low-eq0 c = zero_minus _ _ c.requires.0 c.requires.1 c.if-low-eq0.true c.in-true-false.is-1 (omega arith)

pub returns-else-low-eq0 : goal.returns-else-low-eq0
returns-else-low-eq0 c =
    let t = c.in-true-false in
    ne_eqb c.args.low 0 c.if-low-eq0.false
    ∙ plus-minus _ _ c.requires.0 c.requires.1 t.is-0 c.if-low-eq0.false t.is-1 (omega arith)

pub returns-in-false-true : goal.returns-in-false-true
returns-in-false-true c =
    let t = c.in-false-true in
    minus_plus _ _ c.requires.0 c.requires.1 t.is-0 (omega arith) t.is-1

pub returns-in-false-false : goal.returns-in-false-false
returns-in-false-false c =
    let t = c.in-false-false in
    both-minus _ _ c.requires.0 c.requires.1 t.is-0 (omega arith) t.is-1 (omega arith)

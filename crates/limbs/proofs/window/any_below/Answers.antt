-- A word below the place of c that is not 0, or none of them.
use Rattle.std.proofs.Common.{◌≡◌, ◌<◌, ◌%◌, ◌^◌, min, ℕ, get_or, eqb, not, ap, ◌∙◌, ne_eqb, arith}
use Rattle.limbs.proofs.Words.{words}
use Rattle.limbs.proofs.Below.{gather_none, gather-next, some_below, rest_below}
use Rattle.limbs.proofs.window.any_below.Goals as goal

pub loop-i-init : goal.loop-i-init
loop-i-init c = gather_none _

pub loop-i-preserved : goal.loop-i-preserved
loop-i-preserved c = gather-next c.loop-i.invariant

pub returns-then-whole-ne0 : goal.returns-then-whole-ne0
returns-then-whole-ne0 c =
    let s = c.loop-i.invariant.some c.if-whole-ne0.true in
    let below : s.0 < c.split-p.result.word = omega (arith, s.1, c.loop-i.auto.i-end, c.min-i-end.ensures) in
    ap not (ne_eqb c.loop-i.whole 0 c.if-whole-ne0.true) ∙ some_below c.args.window (words 12 _ _ c.well_formed.0) c.split-p.ensures s.0 below s.2

pub returns-else-whole-ne0 : goal.returns-else-whole-ne0
returns-else-whole-ne0 c =
    let none : (k : ℕ) → k < min c.split-p.result.word 12 → get_or c.args.window k 0 ≡ 0 =
    λ k h. c.loop-i.invariant.none c.if-whole-ne0.false k (omega (arith, h, c.loop-i-test.false, c.min-i-end.ensures)) in
    ap (λ (x : ℕ). not (eqb x 0)) (c.low_bits.ensures ∙ ap (λ (x : ℕ). x % 2 ^ c.split-p.result.bit) c.word_at.ensures)
    ∙ rest_below c.args.window (words 12 _ _ c.well_formed.0) c.split-p.ensures none

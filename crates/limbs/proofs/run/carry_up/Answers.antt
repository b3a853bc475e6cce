use Rattle.std.proofs.Common.{rules, ◌+◌, refl, arith}
use Rattle.limbs.proofs.Carry.{slice-words, carry-again, carry-ends, stays, goes-over}
use Rattle.limbs.proofs.run.carry_up.Goals as goal

pub loop-i-init : goal.loop-i-init
loop-i-init c = (slice-words c.args.words.now (λ k. c.type_inv.words k), refl)

pub returns-then-s-eq0-clause-sum : goal.returns-then-s-eq0-clause-sum
returns-then-s-eq0-clause-sum c =
    stays _ _ _ _
    (carry-ends _ c.loop-i.words c.loop-i.invariant.0 c.loop-i.i (c.loop-i.i + 1) _ c.add_word-s.result.word c.add_word-s.result.carry c.loop-i-test.true refl
    c.loop-i.invariant.1 c.add_word-s.ensures.0 (search rules) c.if-s-eq0.true)

pub loop-i-preserved : goal.loop-i-preserved
loop-i-preserved c =
    carry-again _ c.loop-i.words c.loop-i.invariant.0 c.loop-i.i (c.loop-i.i + 1) _ c.add_word-s.result.word c.add_word-s.result.carry c.loop-i-test.true refl
    c.loop-i.invariant.1 c.add_word-s.ensures.0 (search rules) c.add_word-s.ensures.1 c.if-s-eq0.false

pub returns-clause-sum : goal.returns-clause-sum
returns-clause-sum c = goes-over _ c.loop-i.i _ _ _ (omega arith) c.loop-i.invariant.1

use Rattle.std.proofs.Common.{◌+◌, ℕ, refl, arith, ap, ◌%◌}
use Rattle.limbs.proofs.Carry.{slice-words, borrow-again, borrow-ends, lowers, less}
use Rattle.limbs.proofs.run.borrow_up.Goals as goal

pub loop-i-init : goal.loop-i-init
loop-i-init c = (slice-words c.args.words.now (λ k. c.type_inv.words k), refl)

pub returns-then-old-ne0-clause-sum : goal.returns-then-old-ne0-clause-sum
returns-then-old-ne0-clause-sum c =
    let o = c.if-old-ne0.true in
    lowers _ _ _ _ (borrow-ends _ c.loop-i.words c.loop-i.invariant.0 c.loop-i.i (c.loop-i.i + 1) _ _ _ c.loop-i-test.true refl c.loop-i.invariant.1 (omega arith) (less _ (c.loop-i.invariant.0.fit c.loop-i.i) o))

pub loop-i-preserved : goal.loop-i-preserved
loop-i-preserved c =
    borrow-again _ c.loop-i.words c.loop-i.invariant.0 c.loop-i.i (c.loop-i.i + 1) _ _ _ c.loop-i-test.true refl c.loop-i.invariant.1 (omega arith) c.if-old-ne0.false
    (ap (λ (x : ℕ). (x + 18446744073709551615) % 18446744073709551616) c.if-old-ne0.false)

use Rattle.std.proofs.Common.{◌≡◌, ap, ◌∙◌, sym, arith, not}
use borrow.Author.Tests.{ne_eqb, eq-eqb}
use Rattle.limbs.proofs.Words.{low, low-zero, low-some}
use Rattle.limbs.proofs.TwoHighest.{zero-word}
use Rattle.limbs.proofs.run.any_set.Goals as goal

pub loop-i-init : goal.loop-i-init
loop-i-init c = low-zero c.args.words.now

pub loop-i-preserved : goal.loop-i-preserved
loop-i-preserved c = zero-word c.args.words.now c.loop-i.i c.loop-i.invariant c.if-words-i-ne0.false

pub returns-then-words-i-ne0 : goal.returns-then-words-i-ne0
returns-then-words-i-ne0 c =
    sym (ap not (ne_eqb _ 0 (low-some c.args.words.now c.args.count c.loop-i.i c.loop-i-test.true c.if-words-i-ne0.true)))

pub returns : goal.returns
returns c = sym (ap not (eq-eqb _ 0 (ap (low c.args.words.now) (let e : c.args.count ≡ c.loop-i.i = omega arith in e) ∙ c.loop-i.invariant)))

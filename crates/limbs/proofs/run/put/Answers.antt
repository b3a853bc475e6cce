use Rattle.std.proofs.Common.{◌+◌, ◌/◌, ◌%◌, ◌^◌, ◌∙◌, sym, subst, ℕ, length, set, arith}
use Rattle.limbs.specs.Value.{value}
use Rattle.limbs.specs.Moved.{Moved}
use Rattle.limbs.proofs.TwoWords.{even, over-plus, over-minus, whole-term}
use Rattle.limbs.proofs.Masked.{low-turned, high-turned}
use Rattle.limbs.proofs.run.put.Goals as goal

pub returns-then-negative-clause-sum : goal.returns-then-negative-clause-sum
returns-then-negative-clause-sum c =
    subst (λ (x : ℕ). Moved c.args.negative (length c.args.words.now) (value c.args.words.now) (value c.borrow_up.new.words) x) (whole-term c.args.term c.args.at)
    (over-minus c.args.words.now c.args.at c.requires (c.args.term % 2 ^ 64) (c.args.term / 2 ^ 64) (omega arith) (omega (arith, c.ranges.term.fits)) c.low.result c.high.result c.from.result
    c.add_wide-x.result.word c.add_wide-x.result.carry c.add_wide-y.result.word c.add_wide-y.result.carry c.add_wide-x.ensures.0 c.add_wide-y.ensures.0 c.args.negative _ c.if-negative.true
    (low-turned c.args.negative c.args.term c.flipped_pair-t.result c.low.result c.ranges.term.fits c.flipped_pair-t.ensures c.low.ensures)
    (high-turned c.args.negative c.args.term c.flipped_pair-t.result c.high.result c.ranges.term.fits c.flipped_pair-t.ensures c.high.ensures) c.from.ensures (λ e. c.if-y-from.true (e ∙ sym c.from-2.ensures)) c.add_wide-y.ensures.1 c.borrow_up.ensures.sum)

pub returns-else-negative-clause-sum : goal.returns-else-negative-clause-sum
returns-else-negative-clause-sum c =
    subst (λ (x : ℕ). Moved c.args.negative (length c.args.words.now) (value c.args.words.now) (value c.carry_up.new.words) x) (whole-term c.args.term c.args.at)
    (over-plus c.args.words.now c.args.at c.requires (c.args.term % 2 ^ 64) (c.args.term / 2 ^ 64) (omega arith) (omega (arith, c.ranges.term.fits)) c.low.result c.high.result c.from.result
    c.add_wide-x.result.word c.add_wide-x.result.carry c.add_wide-y.result.word c.add_wide-y.result.carry c.add_wide-x.ensures.0 c.add_wide-y.ensures.0 c.args.negative _ c.if-negative.false
    (low-turned c.args.negative c.args.term c.flipped_pair-t.result c.low.result c.ranges.term.fits c.flipped_pair-t.ensures c.low.ensures)
    (high-turned c.args.negative c.args.term c.flipped_pair-t.result c.high.result c.ranges.term.fits c.flipped_pair-t.ensures c.high.ensures) c.from.ensures (λ e. c.if-y-from.true (e ∙ sym c.from-2.ensures)) c.add_wide-y.ensures.1 c.carry_up.ensures.sum)

pub returns-else-y-from-clause-sum : goal.returns-else-y-from-clause-sum
returns-else-y-from-clause-sum c =
    subst (λ (x : ℕ). Moved c.args.negative (length c.args.words.now) (value c.args.words.now) (value (set (set c.args.words.now c.args.at c.add_wide-x.result.word) (c.args.at + 1) c.add_wide-y.result.word)) x) (whole-term c.args.term c.args.at)
    (even c.args.words.now c.args.at c.requires (c.args.term % 2 ^ 64) (c.args.term / 2 ^ 64) (omega arith) (omega (arith, c.ranges.term.fits)) c.low.result c.high.result c.from.result
    c.add_wide-x.result.word c.add_wide-x.result.carry c.add_wide-y.result.word c.add_wide-y.result.carry c.add_wide-x.ensures.0 c.add_wide-y.ensures.0 c.args.negative
    (low-turned c.args.negative c.args.term c.flipped_pair-t.result c.low.result c.ranges.term.fits c.flipped_pair-t.ensures c.low.ensures)
    (high-turned c.args.negative c.args.term c.flipped_pair-t.result c.high.result c.ranges.term.fits c.flipped_pair-t.ensures c.high.ensures) c.from.ensures (c.if-y-from.false ∙ c.from-2.ensures))

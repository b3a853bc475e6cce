use Rattle.limbs.proofs.TwoHighest.{plus-case, sticky-case, zero-case, exact-case, long-plus, long-minus}
use mathlib.Core.Bool.{true≢false}
use mathlib.Core.Path.{sym, ◌∙◌}
use Rattle.limbs.proofs.run.highest.Goals as goal

pub returns-then-not-negative : goal.returns-then-not-negative
returns-then-not-negative c =
    record {
      long = long-plus c.args.words.now (λ k. c.type_inv.words k) c.requires c.args.negative c.flipped-sign.result c.significant.result c.max-at.result c.flipped-sign.ensures
          c.significant.ensures.above c.significant.ensures.few c.max-at.ensures c.any_set-sticky.result c.any_set-sticky.ensures c.if-not-negative.true c.significant.ensures.last;
      stands = plus-case c.args.words.now (λ k. c.type_inv.words k) c.requires c.args.negative c.flipped-sign.result c.significant.result c.max-at.result c.flipped-sign.ensures
          c.significant.ensures.above c.significant.ensures.few c.max-at.ensures c.any_set-sticky.result c.any_set-sticky.ensures c.if-not-negative.true;
    }

pub returns-then-sticky : goal.returns-then-sticky
returns-then-sticky c =
    record {
      long = long-minus c.args.words.now (λ k. c.type_inv.words k) c.requires c.args.negative c.flipped-sign.result c.significant.result c.max-at.result c.flipped-sign.ensures
          c.significant.ensures.above c.significant.ensures.few c.max-at.ensures c.any_set-sticky.result c.any_set-sticky.ensures c.if-not-negative.false c.significant.ensures.last;
      stands = sticky-case c.args.words.now (λ k. c.type_inv.words k) c.requires c.args.negative c.flipped-sign.result c.significant.result c.max-at.result c.flipped-sign.ensures
          c.significant.ensures.above c.significant.ensures.few c.max-at.ensures c.any_set-sticky.result c.any_set-sticky.ensures c.if-not-negative.false c.if-sticky.true;
    }

pub returns-then-high-eq0 : goal.returns-then-high-eq0
returns-then-high-eq0 c =
    record {
      long = λ t. absurd (true≢false (sym t ∙ c.if-sticky.false));
      stands = zero-case c.args.words.now (λ k. c.type_inv.words k) c.requires c.args.negative c.flipped-sign.result c.significant.result c.max-at.result c.flipped-sign.ensures
          c.significant.ensures.above c.significant.ensures.few c.max-at.ensures c.any_set-sticky.result c.any_set-sticky.ensures c.if-not-negative.false c.if-sticky.false
          c.if-low-eq0.true c.if-high-eq0.true;
    }

pub returns : goal.returns
returns c =
    record {
      long = λ t. absurd (true≢false (sym t ∙ c.if-sticky.false));
      stands = exact-case c.args.words.now (λ k. c.type_inv.words k) c.requires c.args.negative c.flipped-sign.result c.significant.result c.max-at.result c.flipped-sign.ensures
          c.significant.ensures.above c.significant.ensures.few c.max-at.ensures c.any_set-sticky.result c.any_set-sticky.ensures c.if-not-negative.false c.if-sticky.false
          c.add_word-x.result.word c.add_word-x.result.carry c.add_word-y.result.word c.add_word-y.result.carry c.else-low-eq0.either
          c.add_word-x.ensures.0 c.add_word-y.ensures.0 c.add_word-y.ensures.1;
    }

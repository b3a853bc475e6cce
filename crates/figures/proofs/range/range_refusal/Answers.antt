-- Test by test.
use Rattle.std.proofs.Common.{sym, ap, ◌∙◌, not}
use Rattle.figures.proofs.RangeSettled.{first-unequal, second-unequal, too_many, by-ceiling, by_entries, all-passed}
use Rattle.figures.proofs.range.range_refusal.Goals as goal
use Rattle.figures.proofs.range.range_refusal.Goals.{then-firsts-count-via-then-firsts-count, then-firsts-count-via-else-firsts-count+then-seconds-count}
use Rattle.figures.proofs.range.range_refusal.Goals.{then-not-good_ceiling-via-then-not-good_ceiling}
use Rattle.figures.proofs.range.range_refusal.Goals.{then-not-good_ceiling-via-else-not-good_ceiling+then-not-all_good}

pub returns-then-firsts-count : goal.returns-then-firsts-count
returns-then-firsts-count c =
    elim c.then-firsts-count.branch [
      | then-firsts-count-via-then-firsts-count w ↦ sym (first-unequal _ _ _ _ w.if-firsts-count.true)
      | then-firsts-count-via-else-firsts-count+then-seconds-count w ↦ sym (second-unequal _ _ _ _ w.if-firsts-count.false w.if-seconds-count.true)
    ]

pub returns-then-count-gt-LIMIT : goal.returns-then-count-gt-LIMIT
returns-then-count-gt-LIMIT c = sym (too_many _ _ _ _ c.if-firsts-count.false c.if-seconds-count.false c.if-count-gt-LIMIT.true)

pub returns-then-not-good_ceiling : goal.returns-then-not-good_ceiling
returns-then-not-good_ceiling c =
    elim c.then-not-good_ceiling.branch [
      | then-not-good_ceiling-via-then-not-good_ceiling w ↦
          sym (by-ceiling _ _ _ _ c.if-firsts-count.false c.if-seconds-count.false c.if-count-gt-LIMIT.false (sym c.good_ceiling.ensures ∙ w.if-not-good_ceiling.true))
      | then-not-good_ceiling-via-else-not-good_ceiling+then-not-all_good w ↦
          sym (by_entries _ _ _ _ c.if-firsts-count.false c.if-seconds-count.false c.if-count-gt-LIMIT.false (sym c.good_ceiling.ensures ∙ w.if-not-good_ceiling.false)
          (sym w.all_good.ensures ∙ ap not w.if-not-all_good.true))
    ]

pub returns : goal.returns
returns c =
    sym (all-passed _ _ _ _ c.if-firsts-count.false c.if-seconds-count.false c.if-count-gt-LIMIT.false (sym c.good_ceiling.ensures ∙ c.if-not-good_ceiling.false)
    (sym c.all_good.ensures ∙ ap not c.if-not-all_good.false))

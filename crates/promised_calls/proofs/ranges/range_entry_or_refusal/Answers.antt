use Rattle.std.proofs.Common.{◌∙◌}
use Rattle.figures_spec.proofs.ranges.Refused.{range-entry-refused-exactly, range-entry-refused}
use Rattle.promised_calls.proofs.ranges.range_entry_or_refusal.Goals as goal

pub returns-clause-exactly : goal.returns-clause-exactly
returns-clause-exactly c =
    λ n. rw c.enter_range.ensures.code_is (range-entry-refused-exactly c.args.tags.now c.args.firsts.now c.args.seconds.now c.args.ceiling c.args.pair.now n)

pub returns-clause-firsts_kept : goal.returns-clause-firsts_kept
returns-clause-firsts_kept c =
    λ h. c.enter_range.ensures.firsts-are ∙ (range-entry-refused c.args.tags.now c.args.firsts.now c.args.seconds.now c.args.ceiling c.args.pair.now (λ e. h (c.enter_range.ensures.code_is ∙ e))).0

pub returns-clause-seconds_kept : goal.returns-clause-seconds_kept
returns-clause-seconds_kept c =
    λ h. c.enter_range.ensures.seconds-are ∙ (range-entry-refused c.args.tags.now c.args.firsts.now c.args.seconds.now c.args.ceiling c.args.pair.now (λ e. h (c.enter_range.ensures.code_is ∙ e))).1

pub returns-clause-pair_kept : goal.returns-clause-pair_kept
returns-clause-pair_kept c =
    λ h. c.enter_range.ensures.pair_is ∙ (range-entry-refused c.args.tags.now c.args.firsts.now c.args.seconds.now c.args.ceiling c.args.pair.now (λ e. h (c.enter_range.ensures.code_is ∙ e))).2

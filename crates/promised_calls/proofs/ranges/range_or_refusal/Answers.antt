use Rattle.promised_calls.proofs.Enclosed.{exactly, nothing-else, firsts-kept, seconds-kept}
use Rattle.promised_calls.proofs.ranges.range_or_refusal.Goals as goal

pub returns-clause-exactly : goal.returns-clause-exactly
returns-clause-exactly c =
    exactly c.args.tags.now c.args.firsts.now c.args.seconds.now c.args.ceiling c.range_total.result c.range_total.new.firsts c.range_total.new.seconds c.range_total.ensures

pub returns-clause-nothing_else : goal.returns-clause-nothing_else
returns-clause-nothing_else c =
    nothing-else c.args.tags.now c.args.firsts.now c.args.seconds.now c.args.ceiling c.range_total.result c.range_total.new.firsts c.range_total.new.seconds c.range_total.ensures

pub returns-clause-firsts_kept : goal.returns-clause-firsts_kept
returns-clause-firsts_kept c =
    firsts-kept c.args.tags.now c.args.firsts.now c.args.seconds.now c.args.ceiling c.range_total.result c.range_total.new.firsts c.range_total.new.seconds c.range_total.ensures

pub returns-clause-seconds_kept : goal.returns-clause-seconds_kept
returns-clause-seconds_kept c =
    seconds-kept c.args.tags.now c.args.firsts.now c.args.seconds.now c.args.ceiling c.range_total.result c.range_total.new.firsts c.range_total.new.seconds c.range_total.ensures

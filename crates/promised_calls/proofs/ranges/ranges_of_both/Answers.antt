use Rattle.promised_calls.proofs.Enclosed.{alike}
use Rattle.promised_calls.proofs.ranges.ranges_of_both.Goals as goal

pub returns-clause-alike : goal.returns-clause-alike
returns-clause-alike c =
    alike c.args.tags.now c.args.firsts.now c.args.seconds.now c.args.ceiling c.range_total-first.result c.range_total-first.new.firsts
    c.range_total-first.new.seconds c.range_total-first.ensures c.args.moved_tags.now c.args.moved_firsts.now c.args.moved_seconds.now
    c.range_total-second.result c.range_total-second.new.firsts c.range_total-second.new.seconds c.range_total-second.ensures

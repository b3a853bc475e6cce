use Rattle.format.specs.Formats.{format_of}
use Rattle.format.specs.Settings.{settings_of}
use Rattle.promised_calls.proofs.Written.{sum-holds, sum-holds-tens}
use Rattle.promised_calls.proofs.rounded.sum_entry_rounded_once.Goals as goal

pub returns-clause-once : goal.returns-clause-once
returns-clause-once c =
    sum-holds (format_of c.args.f) (settings_of c.args.c) c.args.u c.args.values.now c.args.answer.now c.enter_sum.result c.enter_sum.new.answer c.enter_sum.ensures

pub returns-clause-tens_once : goal.returns-clause-tens_once
returns-clause-tens_once c =
    sum-holds-tens (format_of c.args.f) (settings_of c.args.c) c.args.u c.args.values.now c.args.answer.now c.enter_sum.result c.enter_sum.new.answer c.enter_sum.ensures

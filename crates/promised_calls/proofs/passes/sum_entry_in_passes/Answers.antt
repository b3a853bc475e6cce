use Rattle.format.specs.Formats.{format_of}
use Rattle.format.specs.Settings.{settings_of}
use Rattle.promised_calls.proofs.Written.{sum-limit-written, sum-limit-tens, sum-most-tens, square-most-tens}
use Rattle.promised_calls.proofs.passes.sum_entry_in_passes.Goals as goal

pub returns-clause-limit : goal.returns-clause-limit
returns-clause-limit c =
    sum-limit-written (format_of c.args.f) (settings_of c.args.c) c.args.u c.args.values.now c.args.answer.now c.enter_sum.result c.enter_sum.new.answer c.enter_sum.ensures

pub returns-clause-limit_of_tens : goal.returns-clause-limit_of_tens
returns-clause-limit_of_tens c =
    sum-limit-tens (format_of c.args.f) (settings_of c.args.c) c.args.u c.args.values.now c.args.answer.now c.enter_sum.result c.enter_sum.new.answer c.enter_sum.ensures

pub returns-clause-sums_of_tens : goal.returns-clause-sums_of_tens
returns-clause-sums_of_tens c =
    sum-most-tens (format_of c.args.f) (settings_of c.args.c) c.args.u c.args.values.now c.args.answer.now c.enter_sum.result c.enter_sum.new.answer c.enter_sum.ensures

pub returns-clause-squares_of_tens : goal.returns-clause-squares_of_tens
returns-clause-squares_of_tens c =
    square-most-tens (format_of c.args.f) (settings_of c.args.c) c.args.u c.args.values.now c.args.answer.now c.enter_sum.result c.enter_sum.new.answer c.enter_sum.ensures

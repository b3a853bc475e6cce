use Rattle.format.specs.Formats.{format_of}
use Rattle.format.specs.Settings.{settings_of}
use Rattle.promised_calls.proofs.Entered.{sum-exactly, sum-exactly-tens, sum-placed, sum-writes-nothing}
use Rattle.promised_calls.proofs.refusals.sum_entry_or_refusal.Goals as goal

pub returns-clause-exactly : goal.returns-clause-exactly
returns-clause-exactly c =
    sum-exactly (format_of c.args.f) (settings_of c.args.c) c.args.u c.args.values.now c.args.answer.now c.enter_sum.result c.enter_sum.new.answer c.enter_sum.ensures

pub returns-clause-exactly_tens : goal.returns-clause-exactly_tens
returns-clause-exactly_tens c =
    sum-exactly-tens (format_of c.args.f) (settings_of c.args.c) c.args.u c.args.values.now c.args.answer.now c.enter_sum.result c.enter_sum.new.answer c.enter_sum.ensures

pub returns-clause-place : goal.returns-clause-place
returns-clause-place c =
    sum-placed (format_of c.args.f) (settings_of c.args.c) c.args.u c.args.values.now c.args.answer.now c.enter_sum.result c.enter_sum.new.answer c.enter_sum.ensures

pub returns-clause-nothing_written : goal.returns-clause-nothing_written
returns-clause-nothing_written c =
    sum-writes-nothing (format_of c.args.f) (settings_of c.args.c) c.args.u c.args.values.now c.args.answer.now c.enter_sum.result c.enter_sum.new.answer c.enter_sum.ensures

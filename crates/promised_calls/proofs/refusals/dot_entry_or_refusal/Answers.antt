use Rattle.format.specs.Formats.{format_of}
use Rattle.format.specs.Settings.{settings_of}
use Rattle.promised_calls.proofs.Entered.{dot-exactly, dot-exactly-tens, dot-placed, dot-writes-nothing}
use Rattle.promised_calls.proofs.refusals.dot_entry_or_refusal.Goals as goal

pub returns-clause-exactly : goal.returns-clause-exactly
returns-clause-exactly c =
    dot-exactly (format_of c.args.f) (settings_of c.args.c) c.args.left.now c.args.right.now c.args.answer.now c.enter_dot.result c.enter_dot.new.answer c.enter_dot.ensures

pub returns-clause-exactly_tens : goal.returns-clause-exactly_tens
returns-clause-exactly_tens c =
    dot-exactly-tens (format_of c.args.f) (settings_of c.args.c) c.args.left.now c.args.right.now c.args.answer.now c.enter_dot.result c.enter_dot.new.answer c.enter_dot.ensures

pub returns-clause-place : goal.returns-clause-place
returns-clause-place c =
    dot-placed (format_of c.args.f) (settings_of c.args.c) c.args.left.now c.args.right.now c.args.answer.now c.enter_dot.result c.enter_dot.new.answer c.enter_dot.ensures

pub returns-clause-nothing_written : goal.returns-clause-nothing_written
returns-clause-nothing_written c =
    dot-writes-nothing (format_of c.args.f) (settings_of c.args.c) c.args.left.now c.args.right.now c.args.answer.now c.enter_dot.result c.enter_dot.new.answer c.enter_dot.ensures

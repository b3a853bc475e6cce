use Rattle.format.specs.Formats.{format_of}
use Rattle.format.specs.Settings.{settings_of}
use Rattle.promised_calls.proofs.Written.{dot-holds, dot-holds-tens}
use Rattle.promised_calls.proofs.rounded.dot_entry_rounded_once.Goals as goal

pub returns-clause-once : goal.returns-clause-once
returns-clause-once c =
    dot-holds (format_of c.args.f) (settings_of c.args.c) c.args.left.now c.args.right.now c.args.answer.now c.enter_dot.result c.enter_dot.new.answer c.enter_dot.ensures

pub returns-clause-tens_once : goal.returns-clause-tens_once
returns-clause-tens_once c =
    dot-holds-tens (format_of c.args.f) (settings_of c.args.c) c.args.left.now c.args.right.now c.args.answer.now c.enter_dot.result c.enter_dot.new.answer c.enter_dot.ensures

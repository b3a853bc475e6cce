use Rattle.format.specs.Formats.{format_of}
use Rattle.format.specs.Settings.{settings_of}
use Rattle.promised_calls.proofs.Written.{dot-limit-written, dot-limit-tens, dot-most-tens}
use Rattle.promised_calls.proofs.passes.dot_entry_in_passes.Goals as goal

pub returns-clause-limit : goal.returns-clause-limit
returns-clause-limit c =
    dot-limit-written (format_of c.args.f) (settings_of c.args.c) c.args.left.now c.args.right.now c.args.answer.now c.enter_dot.result c.enter_dot.new.answer c.enter_dot.ensures

pub returns-clause-limit_of_tens : goal.returns-clause-limit_of_tens
returns-clause-limit_of_tens c =
    dot-limit-tens (format_of c.args.f) (settings_of c.args.c) c.args.left.now c.args.right.now c.args.answer.now c.enter_dot.result c.enter_dot.new.answer c.enter_dot.ensures

pub returns-clause-of_tens : goal.returns-clause-of_tens
returns-clause-of_tens c =
    dot-most-tens (format_of c.args.f) (settings_of c.args.c) c.args.left.now c.args.right.now c.args.answer.now c.enter_dot.result c.enter_dot.new.answer c.enter_dot.ensures

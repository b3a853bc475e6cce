use Rattle.format.specs.Formats.{format_of}
use Rattle.format.specs.Settings.{settings_of}
use Rattle.promised_calls.proofs.Entered.{dot-alike, dot-keeps}
use Rattle.promised_calls.proofs.entries.dots_entered.Goals as goal

pub returns-clause-alike : goal.returns-clause-alike
returns-clause-alike c =
    dot-alike (format_of c.args.f) (settings_of c.args.c) c.args.left.now c.args.right.now c.args.answer.now c.enter_dot-first.result c.enter_dot-first.new.answer
    c.enter_dot-first.ensures c.args.moved_left.now c.args.moved_right.now c.args.again.now c.enter_dot-second.result
    c.enter_dot-second.new.answer c.enter_dot-second.ensures

pub returns-clause-rest : goal.returns-clause-rest
returns-clause-rest c = (
  dot-keeps (format_of c.args.f) (settings_of c.args.c) c.args.left.now c.args.right.now c.args.answer.now c.enter_dot-first.result c.enter_dot-first.new.answer
      c.enter_dot-first.ensures,
  dot-keeps (format_of c.args.f) (settings_of c.args.c) c.args.moved_left.now c.args.moved_right.now c.args.again.now c.enter_dot-second.result c.enter_dot-second.new.answer
      c.enter_dot-second.ensures,
)

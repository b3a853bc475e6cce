use Rattle.format.specs.Formats.{format_of}
use Rattle.format.specs.Settings.{settings_of}
use Rattle.promised_calls.proofs.Shown.{dot-alike, dot-keeps}
use Rattle.promised_calls.proofs.within_entries.dots_within_entered.Goals as goal

pub returns-clause-alike : goal.returns-clause-alike
returns-clause-alike c =
    dot-alike (format_of c.args.format) (settings_of c.args.settings) c.args.allowance c.args.left.now c.args.right.now c.args.answer.now
    c.enter_dot_within-first.result c.enter_dot_within-first.new.answer c.enter_dot_within-first.ensures
    c.args.moved_left.now c.args.moved_right.now c.args.again.now c.enter_dot_within-second.result c.enter_dot_within-second.new.answer
    c.enter_dot_within-second.ensures

pub returns-clause-rest : goal.returns-clause-rest
returns-clause-rest c = (
  dot-keeps (format_of c.args.format) (settings_of c.args.settings) c.args.allowance c.args.left.now c.args.right.now c.args.answer.now
      c.enter_dot_within-first.result c.enter_dot_within-first.new.answer c.enter_dot_within-first.ensures,
  dot-keeps (format_of c.args.format) (settings_of c.args.settings) c.args.allowance c.args.moved_left.now c.args.moved_right.now c.args.again.now
      c.enter_dot_within-second.result c.enter_dot_within-second.new.answer c.enter_dot_within-second.ensures,
)

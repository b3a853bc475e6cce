use Rattle.format.specs.Formats.{format_of}
use Rattle.format.specs.Settings.{settings_of}
use Rattle.promised_calls.proofs.Entered.{sum-alike, sum-keeps}
use Rattle.promised_calls.proofs.entries.sums_entered.Goals as goal

pub returns-clause-alike : goal.returns-clause-alike
returns-clause-alike c =
    sum-alike (format_of c.args.f) (settings_of c.args.c) c.args.u c.args.one.now c.args.answer.now c.enter_sum-first.result c.enter_sum-first.new.answer c.enter_sum-first.ensures
    c.args.other.now c.args.again.now c.enter_sum-second.result c.enter_sum-second.new.answer c.enter_sum-second.ensures

pub returns-clause-rest : goal.returns-clause-rest
returns-clause-rest c = (
  sum-keeps (format_of c.args.f) (settings_of c.args.c) c.args.u c.args.one.now c.args.answer.now c.enter_sum-first.result c.enter_sum-first.new.answer c.enter_sum-first.ensures,
  sum-keeps (format_of c.args.f) (settings_of c.args.c) c.args.u c.args.other.now c.args.again.now c.enter_sum-second.result c.enter_sum-second.new.answer c.enter_sum-second.ensures,
)

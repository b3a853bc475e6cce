use Rattle.format.specs.Formats.{format_of}
use Rattle.format.specs.Settings.{settings_of}
use Rattle.promised_calls.proofs.Lent.{contribution-alike, contribution-keeps}
use Rattle.promised_calls.proofs.contributions.contributions_entered.Goals as goal

pub returns-clause-alike : goal.returns-clause-alike
returns-clause-alike c =
    contribution-alike (format_of c.args.format) (settings_of c.args.settings) c.args.wanted c.args.one.now c.args.answer.now
    c.enter_contribution-first.result c.enter_contribution-first.new.answer c.enter_contribution-first.ensures
    c.args.other.now c.args.again.now c.enter_contribution-second.result c.enter_contribution-second.new.answer c.enter_contribution-second.ensures

pub returns-clause-rest : goal.returns-clause-rest
returns-clause-rest c = (
  contribution-keeps (format_of c.args.format) (settings_of c.args.settings) c.args.wanted c.args.one.now c.args.answer.now
      c.enter_contribution-first.result c.enter_contribution-first.new.answer c.enter_contribution-first.ensures,
  contribution-keeps (format_of c.args.format) (settings_of c.args.settings) c.args.wanted c.args.other.now c.args.again.now
      c.enter_contribution-second.result c.enter_contribution-second.new.answer c.enter_contribution-second.ensures,
)

use Rattle.format.specs.Formats.{format_of}
use Rattle.format.specs.Settings.{settings_of}
use Rattle.promised_calls.proofs.Shown.{sum-alike, sum-keeps}
use Rattle.promised_calls.proofs.within_entries.sums_within_entered.Goals as goal

pub returns-clause-alike : goal.returns-clause-alike
returns-clause-alike c =
    sum-alike (format_of c.args.format) (settings_of c.args.settings) c.args.summand c.args.allowance c.args.one.now c.args.answer.now
    c.enter_sum_within-first.result c.enter_sum_within-first.new.answer c.enter_sum_within-first.ensures
    c.args.other.now c.args.again.now c.enter_sum_within-second.result c.enter_sum_within-second.new.answer c.enter_sum_within-second.ensures

pub returns-clause-rest : goal.returns-clause-rest
returns-clause-rest c = (
  sum-keeps (format_of c.args.format) (settings_of c.args.settings) c.args.summand c.args.allowance c.args.one.now c.args.answer.now
      c.enter_sum_within-first.result c.enter_sum_within-first.new.answer c.enter_sum_within-first.ensures,
  sum-keeps (format_of c.args.format) (settings_of c.args.settings) c.args.summand c.args.allowance c.args.other.now c.args.again.now
      c.enter_sum_within-second.result c.enter_sum_within-second.new.answer c.enter_sum_within-second.ensures,
)

use Rattle.format.specs.Formats.{format_of}
use Rattle.promised_calls.proofs.Slots.{targets-alike, targets-keep}
use Rattle.promised_calls.proofs.several_formats.targets_entered.Goals as goal

pub returns-clause-alike : goal.returns-clause-alike
returns-clause-alike c =
    targets-alike (format_of c.args.format) c.args.denormals_are_zero c.args.targets.now c.args.one.now c.args.answer.now
    c.enter_targets-first.result c.enter_targets-first.new.answer c.enter_targets-first.ensures
    c.args.other.now c.args.again.now c.enter_targets-second.result c.enter_targets-second.new.answer c.enter_targets-second.ensures

pub returns-clause-rest : goal.returns-clause-rest
returns-clause-rest c = (
  targets-keep (format_of c.args.format) c.args.denormals_are_zero c.args.targets.now c.args.one.now c.args.answer.now
      c.enter_targets-first.result c.enter_targets-first.new.answer c.enter_targets-first.ensures,
  targets-keep (format_of c.args.format) c.args.denormals_are_zero c.args.targets.now c.args.other.now c.args.again.now
      c.enter_targets-second.result c.enter_targets-second.new.answer c.enter_targets-second.ensures,
)

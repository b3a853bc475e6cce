use Rattle.format.specs.Formats.{format_of}
use Rattle.format.specs.Settings.{settings_of}
use Rattle.promised_calls.proofs.Reached.{alike}
use Rattle.targets.specs.Contributions.{number_in}
use Rattle.promised_calls.proofs.contributions.contributions_to_both.Goals as goal

pub returns-clause-alike : goal.returns-clause-alike
returns-clause-alike c =
    alike (format_of c.args.f) (settings_of c.args.c) c.args.one.now c.args.wanted (number_in c.contribution_to-first.result) c.contribution_to-first.ensures c.args.other.now
    (number_in c.contribution_to-second.result) c.contribution_to-second.ensures

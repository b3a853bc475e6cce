use Rattle.format.specs.Formats.{format_of}
use Rattle.format.specs.Settings.{settings_of}
use Rattle.promised_calls.proofs.Reached.{exactly, nothing-else, placed}
use Rattle.targets.specs.Contributions.{number_in}
use Rattle.promised_calls.proofs.contributions.contribution_or_refusal.Goals as goal

pub returns-clause-exactly : goal.returns-clause-exactly
returns-clause-exactly c =
    exactly (format_of c.args.f) (settings_of c.args.c) c.args.values.now c.args.wanted (number_in c.contribution_to.result) c.contribution_to.ensures

pub returns-clause-nothing_else : goal.returns-clause-nothing_else
returns-clause-nothing_else c =
    nothing-else (format_of c.args.f) (settings_of c.args.c) c.args.values.now c.args.wanted (number_in c.contribution_to.result) c.contribution_to.ensures

pub returns-clause-place : goal.returns-clause-place
returns-clause-place c =
    placed (format_of c.args.f) (settings_of c.args.c) c.args.values.now c.args.wanted (number_in c.contribution_to.result) c.contribution_to.ensures

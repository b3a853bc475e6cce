use Rattle.format.specs.Formats.{format_of}
use Rattle.format.specs.Settings.{settings_of}
use Rattle.targets.specs.Estimates.{estimate_in}
use Rattle.promised_calls.proofs.Allowed.{sum-exactly, sum-nothing-else, sum-placed}
use Rattle.promised_calls.proofs.within.sum_within_or_refusal.Goals as goal

pub returns-clause-exactly : goal.returns-clause-exactly
returns-clause-exactly c =
    sum-exactly (format_of c.args.f) (settings_of c.args.c) c.args.u c.args.values.now c.args.allowance (estimate_in c.sum_within.result) c.sum_within.ensures.answer

pub returns-clause-nothing_else : goal.returns-clause-nothing_else
returns-clause-nothing_else c =
    sum-nothing-else (format_of c.args.f) (settings_of c.args.c) c.args.u c.args.values.now c.args.allowance (estimate_in c.sum_within.result) c.sum_within.ensures.answer

pub returns-clause-place : goal.returns-clause-place
returns-clause-place c =
    sum-placed (format_of c.args.f) (settings_of c.args.c) c.args.u c.args.values.now c.args.allowance (estimate_in c.sum_within.result) c.sum_within.ensures.answer
